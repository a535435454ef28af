-- Cases of the commands about jobs and queues.
use Rattle.std.specs.Prelude.{List, [], ◌∷◌, None, Some, Ok, Err, codes, pos, negsuc, true, false}
use Rattle.job_states.specs.declared.answer.Answer.TheVariants as answer
use Rattle.job_states.specs.declared.answer.Outcome.TheVariants as outcome
use Rattle.job_states.specs.declared.answer.Refused.TheVariants.{UnknownClass, KeyRefused, Full, ClaimLimit, NoSuchJob, WrongState, NotClaimant, NoSuchProcess, NumbersSpent, Locked}
use Rattle.job_states.specs.declared.command.Arg.TheVariants as arg
use Rattle.job_states.specs.declared.command.Command.TheVariants as command
use Rattle.job_states.specs.declared.command.Kind.TheVariants as kind
use Rattle.job_states.specs.declared.job.Stage.TheVariants as stage
use Rattle.job_states.specs.declared.job.State.TheVariants as state
use Rattle.job_states.specs.declared.row.Mode.TheVariants.{Shared, Alone}
use Rattle.job_states.specs.declared.row.Row.TheVariants as row_of
use Rattle.job_states.specs.declared.transition.Put.TheVariants as put
use Rattle.job_states.specs.declared.transition.Transition.TheVariants as transition
use Rattle.semaphores.specs.Semaphore.{semaphore}
use Rattle.queue_model.specs.World.{job}
use Rattle.plan_model.specs.Cases.{Case, begins, class_a, class_b, class_c, class_d, counted, counters, drops_g, drops_h, key_g, key_h, made, new, numbers, plan, polled, process, queue_a, queue_ab, queue_b, queue_q, row, scene, tx, waits_g, world}

-- bulk: full
abbrev case_1 : Case
case_1 = begins
    (scene
    (world
    ((1, job (row 1 class_a queue_ab (negsuc 2) 2 (counted (codes "[E, F]") 1 ∷ []) None) (state.Scheduled 158_000_042))
    ∷ [])
    [] ((1, process kind.Worker 5_000_001 5_000_001) ∷ (2, process kind.Worker 98_000_002 98_000_002) ∷ []) [] []
    (numbers 2 3 1 158_000_002))
    [] (numbers 2 3 1 508_000_005) 1 508_000_005)
    (command.Bulk (new class_b queue_a (pos 0) 65_535 [] (Some 508_000_006) [] ∷ []))
    (Err (Full 1))

-- bulk: key refused
abbrev case_2 : Case
case_2 = begins
    (scene
    (world
    ((
      2,
      job
          (row 2 class_d queue_q (negsuc 2) 65_535 (counted (codes "[K]") 4 ∷ counted (codes "[E]") 1 ∷ [])
          (Some drops_g))
          (state.Ready (Some 1)),
    )
    ∷ [])
    ((key_g, semaphore 1 1 0 180_000_001) ∷ []) ((1, process kind.Worker 0 0) ∷ []) ((queue_b, tt) ∷ []) []
    (numbers 3 2 2 250_000_003))
    [] (numbers 3 2 2 511_000_004) 1 511_000_004)
    (command.Bulk
    (new class_c queue_b (pos 0) 2 (counted (codes "[K]") 4 ∷ counted (codes "[E]") 1 ∷ []) None (arg.Other ∷ []) ∷ []))
    (Err (KeyRefused 0))

-- bulk: numbers spent
abbrev case_3 : Case
case_3 = begins
    (scene (world [] [] ((1, process kind.Worker 60_000_000 60_000_000) ∷ []) [] [] (numbers 1 2 1 60_000_000)) []
    (numbers 9_223_372_036_854_775_808 2 9_223_372_036_854_775_809 180_000_002) 1000 180_000_002)
    (command.Bulk
    (new class_d queue_a (negsuc 2) 2 (counted (codes "[K]") 4 ∷ counted (codes "[E]") 1 ∷ []) (Some 180_000_002) [] ∷ []))
    (Err (NumbersSpent 9_223_372_036_854_775_809))

-- bulk: two transitions
abbrev case_4 : Case
case_4 = begins
    (scene
    (world
    ((1, job (row 1 class_c queue_ab (pos 5) 0 [] None) (state.Finished 60_000_003))
    ∷ (
      2,
      job
          (row 2 class_d queue_q (pos 5) 65_535 (counted (codes "[K]") 4 ∷ counted (codes "[E]") 1 ∷ [])
          (Some drops_g))
          (state.Ready (Some 1)),
    )
    ∷ (3, job (row 3 class_c queue_ab (pos 5) 1 (counted (codes "[StandardError]") 1 ∷ []) None) (state.Ready None))
    ∷ [])
    ((key_g, semaphore 1 1 0 120_000_002) ∷ []) ((1, process kind.Worker 60_000_000 60_000_000) ∷ []) [] []
    (numbers 4 2 2 60_000_003))
    [] (numbers 4 2 2 60_000_003) 1000 60_000_003)
    (command.Bulk
    (new class_b queue_ab (pos 0) 0 (counted (codes "[E, F]") 1 ∷ []) (Some 60_000_003) []
    ∷ new class_b queue_a (pos 5) 65_535 [] None []
    ∷ []))
    (Ok
    (plan
    (tx 60_000_003
    (transition.Enqueue (row 4 class_b queue_ab (pos 0) 0 (counted (codes "[E, F]") 1 ∷ []) (Some waits_g))
    (put.Blocked 110_000_003)
    ∷ transition.Enqueue (row 5 class_b queue_a (pos 5) 65_535 [] (Some waits_g)) (put.Blocked 110_000_003)
    ∷ []))
    ((row_of.Job 4, Alone) ∷ (row_of.Job 5, Alone) ∷ (row_of.Key key_g, Alone) ∷ [])
    (answer.Bulk (made (Some 4) outcome.Blocked ∷ made (Some 5) outcome.Blocked ∷ []))))

-- bulk: unknown class
abbrev case_5 : Case
case_5 = begins
    (scene
    (world
    ((1, job (row 1 class_c queue_b (pos 0) 65_535 (counted (codes "[E, F]") 1 ∷ []) None) (state.Ready None))
    ∷ (
      2,
      job (row 2 class_b queue_b (pos 0) 2 (counted (codes "[K]") 4 ∷ counted (codes "[E]") 1 ∷ []) (Some waits_g))
          (state.Ready (Some 1)),
    )
    ∷ [])
    ((key_g, semaphore 1 1 0 81_000_005) ∷ []) ((1, process kind.Worker 0 0) ∷ (2, process kind.Worker 2 2) ∷ [])
    ((queue_b, tt) ∷ []) [] (numbers 3 3 2 31_000_005))
    [] (numbers 3 3 2 91_000_006) 1000 91_000_006)
    (command.Bulk
    (new (codes "Z") queue_b (negsuc 2) 65_535 (counted (codes "[K]") 4 ∷ counted (codes "[E]") 1 ∷ []) (Some 91_000_003) []
    ∷ new class_d queue_b (negsuc 2) 2 (counted (codes "[E, F]") 1 ∷ []) (Some 91_000_007) []
    ∷ []))
    (Err (UnknownClass 0 (codes "Z")))

-- discard: no such job
abbrev case_6 : Case
case_6 = begins
    (scene (world [] [] ((1, process kind.Worker 1 1) ∷ []) ((queue_b, tt) ∷ []) [] (numbers 1 2 1 95_000_003))
    ((
      3,
      plan (tx 125_000_004 (transition.Pause queue_a ∷ [])) ((row_of.Queue queue_a, Alone) ∷ []) (answer.Paused true queue_a),
    )
    ∷ [])
    (numbers 9_223_372_036_854_775_807 9_223_372_036_854_775_807 9_223_372_036_854_775_807 125_000_004) 1000 125_000_004)
    (command.Discard 3)
    (Err (NoSuchJob 3 1))

-- discard: one transition
abbrev case_7 : Case
case_7 = begins
    (scene
    (world ((1, job (row 1 class_a queue_ab (pos 0) 0 [] None) (state.Scheduled 60_000_004)) ∷ []) []
    ((1, process kind.Worker 60_000_001 60_000_001) ∷ []) [] [] (numbers 2 2 1 60_000_003))
    [] (numbers 2 2 1 110_000_004) 2 110_000_004)
    (command.Discard 1)
    (Ok (plan (tx 110_000_004 (transition.Discard 1 ∷ [])) ((row_of.Job 1, Alone) ∷ []) (answer.Discarded 1 None)))

-- discard: unblocks
abbrev case_8 : Case
case_8 = begins
    (scene
    (world
    ((
      1,
      job (row 1 class_b queue_b (pos 5) 2 (counted (codes "[K]") 4 ∷ counted (codes "[E]") 1 ∷ []) (Some waits_g))
          (state.Scheduled 100_000_004),
    )
    ∷ (
      2,
      job (row 2 class_c queue_a (negsuc 2) 65_535 (counted (codes "[K]") 4 ∷ counted (codes "[E]") 1 ∷ []) None)
          (state.Scheduled 130_000_043),
    )
    ∷ (3, job (row 3 class_b queue_b (pos 0) 2 [] (Some waits_g)) (state.Ready (Some 1)))
    ∷ (4, job (row 4 class_b queue_a (pos 5) 0 [] (Some waits_g)) (state.Blocked 222_000_005))
    ∷ [])
    ((key_g, semaphore 1 1 0 187_000_004) ∷ []) ((1, process kind.Worker 5_000_001 5_000_001) ∷ []) [] []
    (numbers 5 2 2 172_000_005))
    ((
      3,
      plan (tx 222_000_005 (transition.Register 2 kind.Dispatcher (codes "w") ∷ [])) ((row_of.Process 2, Alone) ∷ [])
          (answer.Registered 2),
    )
    ∷ [])
    (numbers 5 3 2 222_000_005) 1000 222_000_005)
    (command.Discard 3)
    (Ok
    (plan (tx 222_000_005 (transition.Discard 3 ∷ transition.Unblock 4 1 ∷ []))
    ((row_of.Job 3, Alone) ∷ (row_of.Job 4, Alone) ∷ (row_of.Key key_g, Alone) ∷ []) (answer.Discarded 3 (Some 4))))

-- discard many: one transition
abbrev case_9 : Case
case_9 = begins
    (scene
    (world ((1, job (row 1 class_d queue_ab (negsuc 2) 0 [] (Some drops_g)) (state.Ready (Some 1))) ∷ [])
    ((key_g, semaphore 1 1 0 212_000_006) ∷ []) ((1, process kind.Worker 1_000_001 1_000_001) ∷ [])
    ((queue_a, tt) ∷ (queue_b, tt) ∷ []) [] (numbers 2 2 2 153_000_007))
    [] (numbers 2 2 2 509_000_012) 1 509_000_012)
    (command.DiscardMany stage.Ready None None)
    (Ok (plan (tx 509_000_012 (transition.Discard 1 ∷ [])) ((row_of.Job 1, Alone) ∷ (row_of.Key key_g, Alone) ∷ []) (answer.Count 1)))

-- discard many: two transitions
abbrev case_10 : Case
case_10 = begins
    (scene
    (world
    ((
      1,
      job (row 1 class_c queue_q (pos 5) 0 (counted (codes "[K]") 4 ∷ counted (codes "[E]") 1 ∷ []) (Some drops_h))
          (state.Ready (Some 1)),
    )
    ∷ (2, job (row 2 class_a queue_a (pos 5) 2 (counted (codes "[E, F]") 1 ∷ []) None) (state.Ready None))
    ∷ [])
    ((key_h, semaphore 1 2 1 225_000_004) ∷ []) ((1, process kind.Worker 1 1) ∷ []) [] [] (numbers 3 2 2 215_000_004))
    [] (numbers 3 2 2 216_000_006) 1000 216_000_006)
    (command.DiscardMany stage.Ready None None)
    (Ok
    (plan (tx 216_000_006 (transition.Discard 1 ∷ transition.Discard 2 ∷ []))
    ((row_of.Job 1, Alone) ∷ (row_of.Job 2, Alone) ∷ (row_of.Key key_h, Alone) ∷ []) (answer.Count 2)))

-- discard many: unblocks
abbrev case_11 : Case
case_11 = begins
    (scene
    (world
    ((
      1,
      job (row 1 class_b queue_a (pos 5) 2 (counted (codes "[K]") 4 ∷ counted (codes "[E]") 1 ∷ []) (Some waits_g))
          (state.Ready (Some 1)),
    )
    ∷ (2, job (row 2 class_b queue_b (negsuc 2) 2 [] (Some waits_g)) (state.Blocked 85_000_005))
    ∷ (
      3,
      job (row 3 class_c queue_b (pos 5) 65_535 (counted (codes "[E, F]") 1 ∷ []) (Some drops_h))
          (state.Ready (Some 2)),
    )
    ∷ (
      4,
      job (row 4 class_a queue_q (pos 0) 65_535 (counted (codes "[K]") 4 ∷ counted (codes "[E]") 1 ∷ []) None)
          (state.Scheduled 36_000_047),
    )
    ∷ (5, job (row 5 class_b queue_b (negsuc 2) 65_535 [] (Some waits_g)) (state.Blocked 86_000_007))
    ∷ [])
    ((key_g, semaphore 1 1 0 85_000_005) ∷ (key_h, semaphore 2 2 1 106_000_007) ∷ [])
    ((1, process kind.Worker 1 35_000_004) ∷ []) ((queue_a, tt) ∷ []) [] (numbers 6 2 3 41_000_008))
    [] (numbers 6 2 3 41_000_008) 1000 41_000_008)
    (command.DiscardMany stage.Ready None (Some class_b))
    (Ok
    (plan (tx 41_000_008 (transition.Discard 1 ∷ transition.Unblock 2 1 ∷ []))
    ((row_of.Job 1, Alone) ∷ (row_of.Job 2, Alone) ∷ (row_of.Key key_g, Alone) ∷ []) (answer.Count 1)))

-- done: locked key
abbrev case_12 : Case
case_12 = begins
    (scene
    (world
    ((1, job (row 1 class_c queue_q (pos 0) 0 (counted (codes "[E, F]") 1 ∷ []) None) (state.Scheduled 2_000_041))
    ∷ (
      2,
      job (row 2 class_d queue_q (pos 5) 0 (counted (codes "[E, F]") 1 ∷ []) (Some drops_g))
          (state.Claimed 1 (Some 1)),
    )
    ∷ (
      3,
      job (row 3 class_b queue_ab (pos 0) 2 (counted (codes "[K]") 4 ∷ counted (codes "[E]") 1 ∷ []) (Some waits_g))
          (state.Scheduled 63_000_006),
    )
    ∷ (4, job (row 4 class_b queue_ab (pos 0) 0 [] (Some waits_g)) (state.Blocked 173_000_005))
    ∷ [])
    ((key_g, semaphore 1 1 0 62_000_001) ∷ []) ((1, process kind.Worker 1_000_001 1_000_001) ∷ []) [] []
    (numbers 5 2 2 129_000_006))
    ((1, plan (tx 179_000_006 []) [] (answer.Count 0))
    ∷ (
      3,
      plan
          (tx 179_000_006
          (transition.Enqueue
          (row 5 class_d queue_a (pos 0) 65_535 (counted (codes "[K]") 4 ∷ counted (codes "[E]") 1 ∷ [])
          (Some drops_g))
          (put.Scheduled 179_000_046)
          ∷ transition.Enqueue
          (row 6 class_b queue_a (pos 5) 65_535 (counted (codes "[E, F]") 1 ∷ []) (Some waits_g))
          (put.Blocked 229_000_006)
          ∷ []))
          ((row_of.Job 5, Alone) ∷ (row_of.Job 6, Alone) ∷ (row_of.Key key_g, Alone) ∷ [])
          (answer.Bulk (made (Some 5) outcome.Scheduled ∷ made (Some 6) outcome.Blocked ∷ [])),
    )
    ∷ [])
    (numbers 7 2 2 179_000_006) 1000 179_000_006)
    (command.Done 1 2)
    (Err (Locked (row_of.Key key_g) 3))

-- done: not the claimant
abbrev case_13 : Case
case_13 = begins
    (scene
    (world
    ((1, job (row 1 class_b queue_b (pos 5) 2 [] (Some waits_g)) (state.Claimed 1 (Some 1)))
    ∷ (
      2,
      job
          (row 2 class_b queue_a (pos 0) 65_535 (counted (codes "[K]") 4 ∷ counted (codes "[E]") 1 ∷ [])
          (Some waits_g))
          (state.Blocked 52_000_002),
    )
    ∷ (
      3,
      job (row 3 class_d queue_q (pos 5) 65_535 (counted (codes "[E, F]") 1 ∷ []) (Some drops_g))
          (state.Scheduled 93_000_005),
    )
    ∷ (
      4,
      job (row 4 class_b queue_b (pos 0) 0 (counted (codes "[K]") 4 ∷ counted (codes "[E]") 1 ∷ []) (Some waits_g))
          (state.Blocked 143_000_004),
    )
    ∷ [])
    ((key_g, semaphore 1 1 0 52_000_002) ∷ []) ((1, process kind.Worker 0 0) ∷ []) [] [] (numbers 5 2 2 93_000_004))
    [] (numbers 5 2 2 94_000_005) 1000 94_000_005)
    (command.Done 3 1)
    (Err (NotClaimant 1 1))

-- done: one transition
abbrev case_14 : Case
case_14 = begins
    (scene
    (world ((1, job (row 1 class_b queue_ab (negsuc 2) 2 [] (Some waits_g)) (state.Claimed 1 (Some 1))) ∷ [])
    ((key_g, semaphore 1 1 0 50_000_002) ∷ []) ((1, process kind.Worker 1 1) ∷ []) [] [] (numbers 2 2 2 41_000_005))
    [] (numbers 2 2 2 241_000_006) 1000 241_000_006)
    (command.Done 1 1)
    (Ok
    (plan (tx 241_000_006 (transition.Done 1 ∷ []))
    ((row_of.Job 1, Alone) ∷ (row_of.Key key_g, Alone) ∷ (row_of.Process 1, Shared) ∷ []) (answer.Done 1 None)))

-- done: unblocks
abbrev case_15 : Case
case_15 = begins
    (scene
    (world
    ((
      1,
      job (row 1 class_d queue_a (negsuc 2) 0 (counted (codes "[E, F]") 1 ∷ []) (Some drops_g))
          (state.Scheduled 90_000_003),
    )
    ∷ (2, job (row 2 class_b queue_a (pos 0) 65_535 [] (Some waits_g)) (state.Claimed 1 (Some 1)))
    ∷ (
      4,
      job (row 4 class_b queue_ab (pos 5) 2 (counted (codes "[K]") 4 ∷ counted (codes "[E]") 1 ∷ []) (Some waits_g))
          (state.Blocked 355_000_007),
    )
    ∷ [])
    ((key_g, semaphore 1 1 0 230_000_003) ∷ [])
    ((1, process kind.Worker 30_000_000 30_000_000) ∷ (2, process kind.Dispatcher 305_000_007 305_000_007) ∷ []) [] []
    (numbers 5 3 2 365_000_007))
    [] (numbers 5 3 2 415_000_007) 1000 415_000_007)
    (command.Done 1 2)
    (Ok
    (plan (tx 415_000_007 (transition.Done 2 ∷ transition.Unblock 4 1 ∷ []))
    ((row_of.Job 2, Alone) ∷ (row_of.Job 4, Alone) ∷ (row_of.Key key_g, Alone) ∷ (row_of.Process 1, Shared) ∷ [])
    (answer.Done 2 (Some 4))))

-- enqueue: full
abbrev case_16 : Case
case_16 = begins
    (scene
    (world
    ((
      1,
      job (row 1 class_b queue_a (negsuc 2) 65_535 (counted (codes "[E, F]") 1 ∷ []) (Some waits_g))
          (state.Claimed 1 (Some 1)),
    )
    ∷ (2, job (row 2 class_b queue_a (pos 0) 65_535 [] (Some waits_g)) (state.Scheduled 70_000_010))
    ∷ [])
    ((key_g, semaphore 1 1 0 115_000_002) ∷ []) ((1, process kind.Worker 30_000_001 30_000_001) ∷ []) [] []
    (numbers 3 2 2 71_000_009))
    ((
      3,
      plan (tx 71_000_010 (transition.Release 1 ∷ [])) ((row_of.Job 1, Alone) ∷ (row_of.Process 1, Shared) ∷ [])
          (answer.Released 1),
    )
    ∷ [])
    (numbers 3 2 2 71_000_010) 2 71_000_010)
    (command.Enqueue (new class_d queue_ab (pos 5) 0 (counted (codes "[E, F]") 1 ∷ []) (Some 71_000_011) []))
    (Err (Full 2))

-- enqueue: key refused
abbrev case_17 : Case
case_17 = begins
    (scene
    (world
    ((1, job (row 1 class_b queue_b (pos 0) 2 (counted (codes "[E, F]") 1 ∷ []) (Some waits_g)) (state.Ready (Some 1)))
    ∷ [])
    ((key_g, semaphore 1 1 0 140_000_001) ∷ []) ((1, process kind.Worker 30_000_000 30_000_000) ∷ []) [] []
    (numbers 2 2 2 90_000_001))
    ((
      1,
      plan
          (tx 126_000_003
          (transition.Enqueue (row 2 class_b queue_q (pos 5) 65_535 [] (Some waits_g)) (put.Blocked 176_000_003) ∷ []))
          ((row_of.Job 2, Alone) ∷ (row_of.Key key_g, Alone) ∷ []) (answer.Bulk (made (Some 2) outcome.Blocked ∷ [])),
    )
    ∷ [])
    (numbers 3 2 2 126_000_003) 2 126_000_003)
    (command.Enqueue (new class_c queue_a (pos 0) 0 [] (Some 126_000_003) (arg.Other ∷ [])))
    (Err (KeyRefused 0))

-- enqueue: locked key
abbrev case_18 : Case
case_18 = begins
    (scene
    (world
    ((1, job (row 1 class_c queue_q (pos 0) 0 (counted (codes "[E, F]") 1 ∷ []) (Some drops_h)) (state.Ready (Some 1)))
    ∷ [])
    ((key_h, semaphore 1 2 1 102_000_001) ∷ [])
    ((1, process kind.Worker 0 0) ∷ (2, process kind.Dispatcher 62_000_001 62_000_001) ∷ []) [] []
    (numbers 2 3 2 62_000_001))
    ((
      2,
      plan
          (tx 97_000_003
          (transition.Enqueue
          (row 2 class_d queue_ab (pos 0) 2 (counted (codes "[K]") 4 ∷ counted (codes "[E]") 1 ∷ []) (Some drops_g))
          (put.Scheduled 97_000_004)
          ∷ transition.Enqueue (row 3 class_d queue_q (pos 5) 65_535 (counted (codes "[E, F]") 1 ∷ []) (Some drops_g))
          (put.Ready (Some 2))
          ∷ []))
          ((row_of.Job 2, Alone) ∷ (row_of.Job 3, Alone) ∷ (row_of.Key key_g, Alone) ∷ [])
          (answer.Bulk (made (Some 2) outcome.Scheduled ∷ made (Some 3) outcome.Ready ∷ [])),
    )
    ∷ (7, plan (tx 97_000_003 []) [] (answer.Count 0))
    ∷ [])
    (numbers 4 3 3 97_000_003) 1000 97_000_003)
    (command.Enqueue (new class_b queue_ab (negsuc 2) 0 [] None []))
    (Err (Locked (row_of.Key key_g) 2))

-- enqueue: numbers spent
abbrev case_19 : Case
case_19 = begins
    (scene
    (world
    ((
      1,
      job
          (row 1 class_b queue_a (negsuc 2) 65_535 (counted (codes "[K]") 4 ∷ counted (codes "[E]") 1 ∷ [])
          (Some waits_g))
          (state.Ready (Some 1)),
    )
    ∷ [])
    ((key_g, semaphore 1 1 0 116_000_001) ∷ []) ((1, process kind.Worker 60_000_000 60_000_000) ∷ []) [] []
    (numbers 2 2 2 66_000_001))
    ((3, plan (tx 76_000_004 []) [] (answer.Count 0)) ∷ [])
    (numbers 9_223_372_036_854_775_809 9_223_372_036_854_775_808 9_223_372_036_854_775_807 76_000_004) 1000 76_000_004)
    (command.Enqueue (new class_a queue_q (negsuc 2) 65_535 [] (Some 76_000_044) []))
    (Err (NumbersSpent 9_223_372_036_854_775_809))

-- enqueue: one transition
abbrev case_20 : Case
case_20 = begins
    (scene
    (world [] ((key_g, semaphore 1 1 1 185_000_002) ∷ []) ((1, process kind.Worker 5_000_001 5_000_001) ∷ []) [] []
    (numbers 2 2 2 125_000_002))
    [] (numbers 9_223_372_036_854_775_807 9_223_372_036_854_775_809 9_223_372_036_854_775_808 155_000_006) 1000 155_000_006)
    (command.Enqueue (new class_a queue_b (pos 5) 0 (counted (codes "[E, F]") 1 ∷ []) None []))
    (Ok
    (plan
    (tx 155_000_006
    (transition.Enqueue
    (row 9_223_372_036_854_775_807 class_a queue_b (pos 5) 0 (counted (codes "[E, F]") 1 ∷ []) None)
    (put.Ready None)
    ∷ []))
    ((row_of.Job 9_223_372_036_854_775_807, Alone) ∷ [])
    (answer.Enqueued (made (Some 9_223_372_036_854_775_807) outcome.Ready))))

-- pause: one transition
abbrev case_21 : Case
case_21 = begins
    (scene (world [] [] ((1, process kind.Worker 1_000_000 1_000_000) ∷ []) [] [] (numbers 1 2 1 1_000_000)) []
    (numbers 1 2 1 231_000_002) 1000 231_000_002)
    (command.Pause queue_b)
    (Ok (plan (tx 231_000_002 (transition.Pause queue_b ∷ [])) ((row_of.Queue queue_b, Alone) ∷ []) (answer.Paused true queue_b)))

-- poll: claim limit
abbrev case_22 : Case
case_22 = begins
    (scene
    (world
    ((1, job (row 1 class_c queue_ab (negsuc 2) 65_535 [] (Some drops_h)) (state.Finished 167_000_010))
    ∷ (
      2,
      job (row 2 class_c queue_q (pos 5) 0 (counted (codes "[E, F]") 1 ∷ []) (Some drops_h))
          (state.Claimed 1 (Some 1)),
    )
    ∷ (
      5,
      job (row 5 class_b queue_q (negsuc 2) 2 (counted (codes "[K]") 4 ∷ counted (codes "[E]") 1 ∷ []) (Some waits_g))
          (state.Claimed 1 (Some 2)),
    )
    ∷ (
      6,
      job (row 6 class_c queue_ab (negsuc 2) 65_535 (counted (codes "[StandardError]") 1 ∷ []) (Some drops_h))
          (state.Claimed 1 (Some 1)),
    )
    ∷ [])
    ((key_g, semaphore 2 1 0 187_000_010) ∷ (key_h, semaphore 1 2 0 237_000_010) ∷ [])
    ((1, process kind.Worker 30_000_001 30_000_001) ∷ []) [] [] (numbers 7 2 3 227_000_010))
    ((1, plan (tx 277_000_010 []) [] (answer.Count 0))
    ∷ (3, plan (tx 277_000_010 (transition.Beat 1 ∷ [])) ((row_of.Process 1, Alone) ∷ []) (answer.Beaten 1))
    ∷ [])
    (numbers 7 2 3 277_000_010) 1000 277_000_010)
    (command.Poll 1 (codes "*" ∷ []) 500)
    (Err (ClaimLimit 1 3))

-- poll: locked process
abbrev case_23 : Case
case_23 = begins
    (scene
    (world
    ((1, job (row 1 class_b queue_ab (pos 5) 65_535 [] (Some waits_g)) (state.Scheduled 30_000_041))
    ∷ (2, job (row 2 class_c queue_ab (pos 0) 0 [] None) (state.Finished 95_000_005))
    ∷ (3, job (row 3 class_c queue_ab (pos 0) 1 (counted (codes "[StandardError]") 1 ∷ []) None) (state.Ready None))
    ∷ [])
    [] ((1, process kind.Worker 0 0) ∷ []) ((queue_a, tt) ∷ []) [] (numbers 4 2 1 95_000_005))
    ((1, plan (tx 296_000_007 (transition.Deregister 1 ∷ [])) ((row_of.Process 1, Alone) ∷ []) (answer.Pruned 0 (Some 1)))
    ∷ [])
    (numbers 9_223_372_036_854_775_809 2 9_223_372_036_854_775_808 296_000_007) 3 296_000_007)
    (command.Poll 1 (queue_q ∷ codes "*a" ∷ []) 1)
    (Err (Locked (row_of.Process 1) 1))

-- poll: no such process
abbrev case_24 : Case
case_24 = begins
    (scene
    (world
    ((1, job (row 1 class_b queue_a (pos 5) 2 [] (Some waits_g)) (state.Ready (Some 1)))
    ∷ (
      2,
      job (row 2 class_c queue_b (negsuc 2) 65_535 (counted (codes "[E, F]") 1 ∷ []) (Some drops_h))
          (state.Ready (Some 2)),
    )
    ∷ [])
    ((key_g, semaphore 1 1 0 151_000_005) ∷ (key_h, semaphore 2 2 1 173_000_007) ∷ [])
    ((1, process kind.Worker 1 1) ∷ (2, process kind.Dispatcher 109_000_007 109_000_007) ∷ []) [] []
    (numbers 3 3 3 109_000_007))
    [] (numbers 3 3 3 219_000_008) 2 219_000_008)
    (command.Poll 3 (queue_ab ∷ codes "*" ∷ []) 2)
    (Err (NoSuchProcess 3 3))

-- poll: one transition
abbrev case_25 : Case
case_25 = begins
    (scene
    (world
    ((
      1,
      job (row 1 class_a queue_q (pos 0) 2 (counted (codes "[K]") 4 ∷ counted (codes "[E]") 1 ∷ []) None)
          (state.Ready None),
    )
    ∷ (
      2,
      job (row 2 class_b queue_b (pos 0) 2 (counted (codes "[E, F]") 1 ∷ []) (Some waits_g)) (state.Ready (Some 1)),
    )
    ∷ [])
    ((key_g, semaphore 1 1 0 51_000_005) ∷ []) ((1, process kind.Worker 1 1) ∷ []) [] [] (numbers 3 2 2 1_000_005))
    [] (numbers 3 2 2 91_000_008) 2 91_000_008)
    (command.Poll 1 (queue_b ∷ queue_a ∷ []) 3)
    (Ok
    (plan (tx 91_000_008 (transition.Claim 2 1 ∷ [])) ((row_of.Job 2, Alone) ∷ (row_of.Process 1, Shared) ∷ [])
    (answer.Polled (polled 2 class_b queue_b (pos 0) 2 ∷ []))))

-- poll: two transitions
abbrev case_26 : Case
case_26 = begins
    (scene
    (world
    ((1, job (row 1 class_c queue_b (pos 0) 65_535 (counted (codes "[E, F]") 1 ∷ []) None) (state.Ready None))
    ∷ (
      2,
      job (row 2 class_d queue_b (negsuc 2) 2 (counted (codes "[E, F]") 1 ∷ []) (Some drops_g))
          (state.Scheduled 1_000_042),
    )
    ∷ (
      3,
      job (row 3 class_a queue_q (pos 0) 65_535 (counted (codes "[K]") 4 ∷ counted (codes "[E]") 1 ∷ []) None)
          (state.Ready None),
    )
    ∷ (
      4,
      job (row 4 class_b queue_b (pos 0) 2 (counted (codes "[K]") 4 ∷ counted (codes "[E]") 1 ∷ []) (Some waits_g))
          (state.Ready (Some 1)),
    )
    ∷ [])
    ((key_g, semaphore 1 1 0 51_000_002) ∷ []) ((1, process kind.Worker 0 0) ∷ []) [] [] (numbers 5 2 2 1_000_002))
    [] (numbers 5 2 2 1_000_002) 4 1_000_002)
    (command.Poll 1 (codes "*" ∷ []) 3)
    (Ok
    (plan (tx 1_000_002 (transition.Claim 1 1 ∷ transition.Claim 3 1 ∷ transition.Claim 4 1 ∷ []))
    ((row_of.Job 1, Alone) ∷ (row_of.Job 3, Alone) ∷ (row_of.Job 4, Alone) ∷ (row_of.Process 1, Shared) ∷ [])
    (answer.Polled
    (polled 1 class_c queue_b (pos 0) 65_535
    ∷ polled 3 class_a queue_q (pos 0) 65_535
    ∷ polled 4 class_b queue_b (pos 0) 2
    ∷ []))))

-- raised: locked key
abbrev case_27 : Case
case_27 = begins
    (scene
    (world
    ((1, job (row 1 class_d queue_ab (pos 0) 0 [] (Some drops_g)) (state.Claimed 1 (Some 1)))
    ∷ (2, job (row 2 class_b queue_q (negsuc 2) 0 [] (Some waits_g)) (state.Blocked 115_000_000))
    ∷ [])
    ((key_g, semaphore 1 1 0 125_000_000) ∷ []) ((1, process kind.Worker 0 0) ∷ []) [] [] (numbers 3 2 2 70_000_001))
    ((
      2,
      plan
          (tx 70_000_002
          (transition.Enqueue
          (row 3 class_b queue_ab (pos 0) 65_535 (counted (codes "[K]") 4 ∷ counted (codes "[E]") 1 ∷ [])
          (Some waits_g))
          (put.Blocked 120_000_002)
          ∷ []))
          ((row_of.Job 3, Alone) ∷ (row_of.Key key_g, Alone) ∷ []) (answer.Enqueued (made (Some 3) outcome.Blocked)),
    )
    ∷ (7, plan (tx 70_000_002 (transition.Beat 1 ∷ [])) ((row_of.Process 1, Alone) ∷ []) (answer.Beaten 1))
    ∷ [])
    (numbers 4 2 2 70_000_002) 3 70_000_002)
    (command.Raised 1 1 (codes "G") (codes "m"))
    (Err (Locked (row_of.Key key_g) 2))

-- raised: not the claimant
abbrev case_28 : Case
case_28 = begins
    (scene
    (world
    ((1, job (row 1 class_a queue_a (pos 0) 0 [] None) (state.Claimed 1 None))
    ∷ (
      2,
      job (row 2 class_b queue_a (pos 5) 2 (counted (codes "[K]") 4 ∷ counted (codes "[E]") 1 ∷ []) (Some waits_g))
          (state.Claimed 1 (Some 1)),
    )
    ∷ [])
    ((key_g, semaphore 1 1 0 55_000_003) ∷ []) ((1, process kind.Worker 5_000_001 5_000_001) ∷ []) ((queue_b, tt) ∷ [])
    [] (numbers 3 2 2 170_000_009))
    ((
      3,
      plan (tx 170_000_009 (transition.Register 2 kind.Worker (codes "w") ∷ [])) ((row_of.Process 2, Alone) ∷ [])
          (answer.Registered 2),
    )
    ∷ [])
    (numbers 3 3 2 170_000_009) 1000 170_000_009)
    (command.Raised 3 1 (codes "StandardError") (codes ""))
    (Err (NotClaimant 1 1))

-- raised: numbers spent
abbrev case_29 : Case
case_29 = begins
    (scene
    (world ((1, job (row 1 class_b queue_ab (pos 5) 65_535 [] (Some waits_g)) (state.Claimed 1 (Some 1))) ∷ [])
    ((key_g, semaphore 1 1 0 51_000_001) ∷ []) ((1, process kind.Worker 1_000_000 1_000_000) ∷ []) [] []
    (numbers 2 2 2 61_000_003))
    ((3, plan (tx 142_000_003 []) [] (answer.Count 0)) ∷ []) (numbers 9_223_372_036_854_775_809 2 2 142_000_003) 1000
    142_000_003)
    (command.Raised 1 1 (codes "H") (codes "boom"))
    (Err (NumbersSpent 9_223_372_036_854_775_809))

-- raised: ends
abbrev case_30 : Case
case_30 = begins
    (scene
    (world
    ((
      1,
      job (row 1 class_b queue_a (pos 0) 0 (counted (codes "[K]") 4 ∷ counted (codes "[E]") 1 ∷ []) (Some waits_g))
          (state.Claimed 1 (Some 1)),
    )
    ∷ (
      2,
      job (row 2 class_d queue_q (negsuc 2) 65_535 (counted (codes "[E, F]") 1 ∷ []) (Some drops_g))
          (state.Scheduled 1_000_043),
    )
    ∷ (3, job (row 3 class_c queue_ab (pos 0) 65_535 [] None) (state.Ready None))
    ∷ (4, job (row 4 class_a queue_b (pos 5) 2 [] None) (state.Claimed 1 None))
    ∷ (5, job (row 5 class_a queue_a (pos 0) 2 (counted (codes "[E, F]") 1 ∷ []) None) (state.Scheduled 1_000_004))
    ∷ (
      6,
      job (row 6 class_d queue_a (pos 5) 2 (counted (codes "[E, F]") 1 ∷ []) (Some drops_g))
          (state.Scheduled 1_000_043),
    )
    ∷ [])
    ((key_g, semaphore 1 1 0 51_000_002) ∷ []) ((1, process kind.Worker 1_000_001 63_000_003) ∷ []) [] []
    (numbers 7 2 2 63_000_003))
    [] (numbers 7 2 2 63_000_003) 6 63_000_003)
    (command.Raised 1 4 (codes "G") (codes "m"))
    (Ok
    (plan (tx 63_000_003 (transition.Done 4 ∷ [])) ((row_of.Job 4, Alone) ∷ (row_of.Process 1, Shared) ∷ [])
    (answer.Raised 4 None outcome.Finished None)))

-- raised: fails
abbrev case_31 : Case
case_31 = begins
    (scene
    (world
    ((1, job (row 1 class_d queue_b (pos 0) 2 [] (Some drops_g)) (state.Scheduled 187_000_045))
    ∷ (
      2,
      job (row 2 class_b queue_a (pos 0) 2 (counted (codes "[K]") 4 ∷ counted (codes "[E]") 1 ∷ []) (Some waits_g))
          (state.Claimed 1 (Some 1)),
    )
    ∷ [])
    ((key_g, semaphore 1 1 0 299_000_007) ∷ []) ((1, process kind.Worker 1_000_001 1_000_001) ∷ []) [] []
    (numbers 3 2 2 279_000_007))
    [] (numbers 3 2 2 279_000_007) 1000 279_000_007)
    (command.Raised 1 2 (codes "E") (codes ""))
    (Ok
    (plan
    (tx 279_000_007
    (transition.Fail 2 (codes "E") (codes "")
    (Some (counters 3 (counted (codes "[K]") 4 ∷ counted (codes "[E]") 2 ∷ [])))
    ∷ []))
    ((row_of.Job 2, Alone) ∷ (row_of.Key key_g, Alone) ∷ (row_of.Process 1, Shared) ∷ [])
    (answer.Raised 2 None outcome.Failed None)))

-- raised: tries again at once
abbrev case_32 : Case
case_32 = begins
    (scene
    (world
    ((
      1,
      job (row 1 class_b queue_a (pos 5) 0 (counted (codes "[E, F]") 1 ∷ []) (Some waits_g)) (state.Claimed 1 (Some 1)),
    )
    ∷ [])
    ((key_g, semaphore 1 1 0 80_000_002) ∷ []) ((1, process kind.Worker 1 1) ∷ []) [] [] (numbers 2 2 2 151_000_004))
    ((1, plan (tx 201_000_004 []) ((row_of.Process 1, Shared) ∷ []) (answer.Polled []))
    ∷ (
      3,
      plan
          (tx 201_000_004
          (transition.Enqueue (row 2 class_c queue_b (pos 0) 65_535 (counted (codes "[E, F]") 1 ∷ []) None)
          (put.Ready None)
          ∷ []))
          ((row_of.Job 2, Alone) ∷ []) (answer.Bulk (made (Some 2) outcome.Ready ∷ made None outcome.Discarded ∷ [])),
    )
    ∷ [])
    (numbers 3 2 2 201_000_004) 1000 201_000_004)
    (command.Raised 1 1 (codes "StandardError") (codes "boom"))
    (Ok
    (plan
    (tx 201_000_004
    (transition.Done 1
    ∷ transition.Enqueue
    (row 3 class_b queue_a (pos 5) 1 (counted (codes "[E, F]") 1 ∷ counted (codes "[StandardError]") 1 ∷ [])
    (Some waits_g))
    (put.Ready (Some 1))
    ∷ []))
    ((row_of.Job 1, Alone) ∷ (row_of.Job 3, Alone) ∷ (row_of.Key key_g, Alone) ∷ (row_of.Process 1, Shared) ∷ [])
    (answer.Raised 1 (Some 3) outcome.Finished None)))

-- raised: tries again later
abbrev case_33 : Case
case_33 = begins
    (scene
    (world ((1, job (row 1 class_b queue_q (pos 5) 65_535 [] (Some waits_g)) (state.Claimed 1 (Some 1))) ∷ [])
    ((key_g, semaphore 1 1 0 85_000_003) ∷ []) ((1, process kind.Worker 0 0) ∷ []) [] [] (numbers 2 2 2 40_000_004))
    [] (numbers 2 2 2 241_000_005) 1000 241_000_005)
    (command.Raised 1 1 (codes "G") (codes ""))
    (Ok
    (plan
    (tx 241_000_005
    (transition.Done 1
    ∷ transition.Enqueue (row 2 class_b queue_q (pos 5) 65_535 (counted (codes "[E]") 1 ∷ []) (Some waits_g))
    (put.Scheduled 250_000_005)
    ∷ []))
    ((row_of.Job 1, Alone) ∷ (row_of.Job 2, Alone) ∷ (row_of.Key key_g, Alone) ∷ (row_of.Process 1, Shared) ∷ [])
    (answer.Raised 1 (Some 2) outcome.Finished None)))

-- raised: fails and unblocks
abbrev case_34 : Case
case_34 = begins
    (scene
    (world
    ((
      1,
      job (row 1 class_d queue_q (pos 5) 0 (counted (codes "[E, F]") 1 ∷ []) (Some drops_g)) (state.Claimed 2 (Some 1)),
    )
    ∷ (
      2,
      job (row 2 class_b queue_q (pos 5) 2 (counted (codes "[E, F]") 1 ∷ []) (Some waits_g))
          (state.Blocked 110_000_001),
    )
    ∷ [])
    ((key_g, semaphore 1 1 0 120_000_001) ∷ [])
    ((1, process kind.Worker 60_000_001 60_000_001) ∷ (2, process kind.Dispatcher 120_000_001 120_000_001) ∷ []) [] []
    (numbers 3 3 2 240_000_002))
    ((7, plan (tx 305_000_005 []) [] (answer.Count 0)) ∷ []) (numbers 3 3 2 305_000_005) 2 305_000_005)
    (command.Raised 2 1 (codes "StandardError") (codes "m"))
    (Ok
    (plan
    (tx 305_000_005
    (transition.Fail 1 (codes "StandardError") (codes "m") (Some (counters 1 (counted (codes "[E, F]") 1 ∷ [])))
    ∷ transition.Unblock 2 1
    ∷ []))
    ((row_of.Job 1, Alone) ∷ (row_of.Job 2, Alone) ∷ (row_of.Key key_g, Alone) ∷ (row_of.Process 2, Shared) ∷ [])
    (answer.Raised 1 None outcome.Failed (Some 2))))

-- release: one transition
abbrev case_35 : Case
case_35 = begins
    (scene
    (world
    ((1, job (row 1 class_c queue_ab (pos 0) 65_535 [] None) (state.Scheduled 35_000_005))
    ∷ (2, job (row 2 class_a queue_ab (pos 0) 0 (counted (codes "[E, F]") 1 ∷ []) None) (state.Ready None))
    ∷ (
      3,
      job
          (row 3 class_b queue_a (pos 5) 65_535 (counted (codes "[K]") 4 ∷ counted (codes "[E]") 1 ∷ [])
          (Some waits_g))
          (state.Claimed 1 (Some 1)),
    )
    ∷ (4, job (row 4 class_a queue_b (pos 5) 0 [] None) (state.Ready None))
    ∷ (5, job (row 5 class_b queue_a (pos 5) 2 [] (Some waits_g)) (state.Blocked 248_000_009))
    ∷ [])
    ((key_g, semaphore 1 1 0 156_000_007) ∷ []) ((1, process kind.Worker 1 1) ∷ []) ((queue_b, tt) ∷ []) []
    (numbers 6 2 2 198_000_009))
    [] (numbers 6 2 2 248_000_009) 1000 248_000_009)
    (command.Release 1 3)
    (Ok
    (plan (tx 248_000_009 (transition.Release 3 ∷ [])) ((row_of.Job 3, Alone) ∷ (row_of.Process 1, Shared) ∷ [])
    (answer.Released 3)))

-- resume: one transition
abbrev case_36 : Case
case_36 = begins
    (scene
    (world
    ((
      1,
      job (row 1 class_b queue_a (pos 5) 2 (counted (codes "[E, F]") 1 ∷ []) (Some waits_g))
          (state.Finished 276_000_003),
    )
    ∷ (2, job (row 2 class_c queue_q (pos 5) 2 [] None) (state.Claimed 1 None))
    ∷ [])
    [] ((1, process kind.Worker 60_000_000 60_000_000) ∷ []) ((queue_a, tt) ∷ []) [] (numbers 5 2 2 368_000_006))
    [] (numbers 5 2 2 368_000_007) 1000 368_000_007)
    (command.Resume queue_a)
    (Ok (plan (tx 368_000_007 (transition.Resume queue_a ∷ [])) ((row_of.Queue queue_a, Alone) ∷ []) (answer.Paused false queue_a)))

-- retry: one transition
abbrev case_37 : Case
case_37 = begins
    (scene
    (world
    ((
      1,
      job (row 1 class_a queue_q (pos 5) 65_535 (counted (codes "[E, F]") 1 ∷ []) None)
          (state.Failed (codes "H") (codes "boom")),
    )
    ∷ [])
    [] ((1, process kind.Worker 30_000_000 30_000_000) ∷ (2, process kind.Worker 66_000_003 66_000_003) ∷ [])
    ((queue_a, tt) ∷ []) [] (numbers 2 3 1 66_000_003))
    [] (numbers 2 3 1 297_000_005) 1000 297_000_005)
    (command.Retry 1)
    (Ok
    (plan (tx 297_000_005 (transition.Retry 1 (put.Ready None) ∷ [])) ((row_of.Job 1, Alone) ∷ [])
    (answer.Retried 1 outcome.Ready)))

-- retry: wrong state
abbrev case_38 : Case
case_38 = begins
    (scene
    (world
    ((
      1,
      job (row 1 class_b queue_a (negsuc 2) 2 (counted (codes "[K]") 4 ∷ counted (codes "[E]") 1 ∷ []) (Some waits_g))
          (state.Ready (Some 1)),
    )
    ∷ (
      2,
      job (row 2 class_c queue_q (negsuc 2) 0 (counted (codes "[K]") 4 ∷ counted (codes "[E]") 1 ∷ []) None)
          (state.Scheduled 95_000_002),
    )
    ∷ (3, job (row 3 class_b queue_a (negsuc 2) 2 [] (Some waits_g)) (state.Scheduled 95_000_002))
    ∷ (4, job (row 4 class_b queue_ab (pos 5) 65_535 [] (Some waits_g)) (state.Blocked 145_000_001))
    ∷ (5, job (row 5 class_c queue_q (pos 0) 65_535 (counted (codes "[E, F]") 1 ∷ []) None) (state.Ready None))
    ∷ [])
    ((key_g, semaphore 1 1 0 115_000_000) ∷ []) ((1, process kind.Worker 5_000_000 5_000_000) ∷ []) [] []
    (numbers 6 2 2 95_000_001))
    ((7, plan (tx 355_000_004 []) ((row_of.Queue queue_a, Alone) ∷ []) (answer.Paused false queue_a)) ∷ [])
    (numbers 6 2 2 355_000_004) 6 355_000_004)
    (command.Retry 4)
    (Err (WrongState 4 stage.Blocked))

-- retry many: one transition
abbrev case_39 : Case
case_39 = begins
    (scene
    (world
    ((
      1,
      job (row 1 class_b queue_b (pos 0) 65_535 (counted (codes "[K]") 4 ∷ counted (codes "[E]") 2 ∷ []) (Some waits_g))
          (state.Failed (codes "E") (codes "boom")),
    )
    ∷ (
      2,
      job (row 2 class_a queue_a (negsuc 2) 2 (counted (codes "[E, F]") 1 ∷ []) None) (state.Scheduled 251_000_050),
    )
    ∷ (
      3,
      job (row 3 class_c queue_b (negsuc 2) 65_535 (counted (codes "[E, F]") 1 ∷ []) None)
          (state.Scheduled 252_000_012),
    )
    ∷ [])
    ((key_g, semaphore 1 1 1 86_000_005) ∷ []) ((1, process kind.Worker 1 1) ∷ []) ((queue_a, tt) ∷ []) []
    (numbers 4 2 2 252_000_011))
    [] (numbers 9_223_372_036_854_775_807 9_223_372_036_854_775_807 9_223_372_036_854_775_809 302_000_011) 1000 302_000_011)
    (command.RetryMany None None)
    (Ok
    (plan (tx 302_000_011 (transition.Retry 1 (put.Ready (Some 1)) ∷ [])) ((row_of.Job 1, Alone) ∷ (row_of.Key key_g, Alone) ∷ [])
    (answer.Count 1)))

abbrev pub job_cases : List Case
job_cases =
    case_1 ∷ case_2 ∷ case_3 ∷ case_4 ∷ case_5 ∷ case_6 ∷ case_7 ∷ case_8 ∷ case_9 ∷ case_10 ∷ case_11 ∷ case_12 ∷ case_13 ∷ case_14 ∷ case_15 ∷ case_16 ∷ case_17 ∷ case_18 ∷ case_19 ∷ case_20 ∷ case_21 ∷ case_22 ∷ case_23 ∷ case_24 ∷ case_25 ∷ case_26 ∷ case_27 ∷ case_28 ∷ case_29 ∷ case_30 ∷ case_31 ∷ case_32 ∷ case_33 ∷ case_34 ∷ case_35 ∷ case_36 ∷ case_37 ∷ case_38 ∷ case_39 ∷ []
