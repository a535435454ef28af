-- Cases of the commands of maintenance.
use Rattle.std.specs.Prelude.{List, [], ◌∷◌, None, Some, Ok, Err, codes, pos, negsuc, true, false}
use Rattle.job_states.specs.declared.answer.Answer.TheVariants as answer
use Rattle.job_states.specs.declared.answer.Outcome.TheVariants as outcome
use Rattle.job_states.specs.declared.answer.Refused.TheVariants.{NoSuchProcess, NumbersSpent, Locked}
use Rattle.job_states.specs.declared.command.Command.TheVariants as command
use Rattle.job_states.specs.declared.command.Kind.TheVariants as kind
use Rattle.job_states.specs.declared.job.State.TheVariants as state
use Rattle.job_states.specs.declared.row.Mode.TheVariants.{Shared, Alone}
use Rattle.job_states.specs.declared.row.Row.TheVariants as row_of
use Rattle.job_states.specs.declared.transition.Put.TheVariants as put
use Rattle.job_states.specs.declared.transition.Transition.TheVariants as transition
use Rattle.semaphores.specs.Semaphore.{semaphore}
use Rattle.queue_model.specs.World.{job}
use Rattle.plan_model.specs.Cases.{Case, begins, class_a, class_b, class_c, class_d, counted, drops_g, drops_h, key_g, key_h, limit, numbers, plan, process, queue_a, queue_ab, queue_b, queue_q, row, scene, tx, waits_g, world}

-- beat: locked process
abbrev case_1 : Case
case_1 = begins
    (scene
    (world ((1, job (row 1 class_a queue_q (pos 0) 65_535 [] None) (state.Scheduled 35_000_003)) ∷ []) []
    ((1, process kind.Worker 5_000_001 5_000_001) ∷ []) [] [] (numbers 2 2 1 35_000_002))
    ((2, plan (tx 35_000_004 (transition.Beat 1 ∷ [])) ((row_of.Process 1, Alone) ∷ []) (answer.Beaten 1))
    ∷ (
      7,
      plan (tx 35_000_004 (transition.Pause queue_b ∷ [])) ((row_of.Queue queue_b, Alone) ∷ []) (answer.Paused true queue_b),
    )
    ∷ [])
    (numbers 2 2 1 35_000_004) 1000 35_000_004)
    (command.Beat 1)
    (Err (Locked (row_of.Process 1) 2))

-- beat: no such process
abbrev case_2 : Case
case_2 = begins
    (scene
    (world [] [] ((1, process kind.Worker 0 0) ∷ (2, process kind.Worker 1_000_001 1_000_001) ∷ []) [] []
    (numbers 1 3 1 1_000_001))
    ((3, plan (tx 2_000_001 (transition.Beat 2 ∷ [])) ((row_of.Process 2, Alone) ∷ []) (answer.Beaten 2)) ∷ [])
    (numbers 1 3 1 2_000_001) 1 2_000_001)
    (command.Beat 9)
    (Err (NoSuchProcess 9 3))

-- beat: one transition
abbrev case_3 : Case
case_3 = begins
    (scene
    (world
    ((1, job (row 1 class_c queue_q (negsuc 2) 0 [] None) (state.Ready None))
    ∷ (2, job (row 2 class_d queue_q (pos 0) 65_535 [] (Some drops_g)) (state.Ready (Some 1)))
    ∷ (
      3,
      job
          (row 3 class_d queue_ab (pos 5) 65_535 (counted (codes "[K]") 4 ∷ counted (codes "[E]") 1 ∷ [])
          (Some drops_g))
          (state.Scheduled 95_000_004),
    )
    ∷ (4, job (row 4 class_b queue_q (pos 0) 0 [] (Some waits_g)) (state.Blocked 145_000_003))
    ∷ [])
    []
    ((1, process kind.Worker 5_000_001 5_000_001)
    ∷ (2, process kind.Worker 35_000_002 35_000_002)
    ∷ (3, process kind.Dispatcher 185_000_004 185_000_004)
    ∷ (4, process kind.Dispatcher 185_000_004 185_000_004)
    ∷ [])
    [] [] (numbers 6 5 2 215_000_004))
    ((
      1,
      plan (tx 276_000_004 (transition.Unblock 4 2 ∷ [])) ((row_of.Job 4, Alone) ∷ (row_of.Key key_g, Alone) ∷ [])
          (answer.Count 1),
    )
    ∷ (3, plan (tx 276_000_004 []) [] (answer.Count 0))
    ∷ [])
    (numbers 6 5 3 276_000_004) 4 276_000_004)
    (command.Beat 4)
    (Ok (plan (tx 276_000_004 (transition.Beat 4 ∷ [])) ((row_of.Process 4, Alone) ∷ []) (answer.Beaten 4)))

-- clear: nothing
abbrev case_4 : Case
case_4 = begins
    (scene
    (world
    ((
      1,
      job (row 1 class_b queue_ab (negsuc 2) 2 (counted (codes "[K]") 4 ∷ counted (codes "[E]") 1 ∷ []) (Some waits_g))
          (state.Ready (Some 1)),
    )
    ∷ [])
    ((key_g, semaphore 1 1 0 145_000_005) ∷ []) ((1, process kind.Worker 1_000_001 1_000_001) ∷ []) [] []
    (numbers 2 3 2 97_000_006))
    [] (numbers 9_223_372_036_854_775_807 9_223_372_036_854_775_809 9_223_372_036_854_775_808 192_000_008) 1 192_000_008)
    command.ClearFinished
    (Ok (plan (tx 192_000_008 []) [] (answer.Count 0)))

-- deregister: locked job
abbrev case_5 : Case
case_5 = begins
    (scene
    (world
    ((
      1,
      job (row 1 class_d queue_q (pos 0) 0 (counted (codes "[K]") 4 ∷ counted (codes "[E]") 1 ∷ []) (Some drops_g))
          (state.Claimed 2 (Some 1)),
    )
    ∷ [])
    [] ((1, process kind.Worker 1 121_000_005) ∷ (2, process kind.Worker 151_000_008 151_000_008) ∷ []) [] []
    (numbers 2 3 2 152_000_011))
    ((
      3,
      plan
          (tx 413_000_012
          (transition.Done 1
          ∷ transition.Enqueue
          (row 2 class_d queue_q (pos 0) 1
          (counted (codes "[K]") 4 ∷ counted (codes "[E]") 1 ∷ counted (codes "[G]") 1 ∷ []) (Some drops_g))
          (put.Scheduled 418_000_012)
          ∷ []))
          ((row_of.Job 1, Alone) ∷ (row_of.Job 2, Alone) ∷ (row_of.Key key_g, Alone) ∷ (row_of.Process 2, Shared) ∷ [])
          (answer.Raised 1 (Some 2) outcome.Finished None),
    )
    ∷ [])
    (numbers 3 3 2 413_000_012) 1 413_000_012)
    (command.Deregister 2)
    (Err (Locked (row_of.Job 1) 3))

-- deregister: locked process
abbrev case_6 : Case
case_6 = begins
    (scene
    (world ((1, job (row 1 class_d queue_b (pos 5) 65_535 [] (Some drops_g)) (state.Scheduled 5_000_003)) ∷ []) []
    ((1, process kind.Worker 5_000_001 5_000_001) ∷ []) ((queue_a, tt) ∷ []) [] (numbers 2 2 1 10_000_002))
    ((3, plan (tx 10_000_002 []) ((row_of.Process 1, Shared) ∷ []) (answer.Polled [])) ∷ []) (numbers 2 2 1 10_000_002) 2
    10_000_002)
    (command.Deregister 1)
    (Err (Locked (row_of.Process 1) 3))

-- deregister: no such process
abbrev case_7 : Case
case_7 = begins
    (scene
    (world
    ((
      1,
      job (row 1 class_d queue_q (negsuc 2) 0 (counted (codes "[K]") 4 ∷ counted (codes "[E]") 1 ∷ []) (Some drops_g))
          (state.Ready (Some 1)),
    )
    ∷ [])
    ((key_g, semaphore 1 1 0 90_000_000) ∷ []) ((1, process kind.Worker 30_000_000 30_000_000) ∷ []) [] []
    (numbers 2 2 2 30_000_000))
    [] (numbers 2 2 2 230_000_000) 1000 230_000_000)
    (command.Deregister 9)
    (Err (NoSuchProcess 9 2))

-- deregister: one transition
abbrev case_8 : Case
case_8 = begins
    (scene
    (world
    ((
      1,
      job
          (row 1 class_b queue_ab (pos 5) 65_535 (counted (codes "[K]") 4 ∷ counted (codes "[E]") 1 ∷ []) (Some waits_g))
          (state.Ready (Some 1)),
    )
    ∷ [])
    []
    ((1, process kind.Worker 1_000_000 38_000_000)
    ∷ (2, process kind.Dispatcher 98_000_001 98_000_002)
    ∷ (3, process kind.Worker 163_000_004 163_000_004)
    ∷ [])
    ((queue_a, tt) ∷ (queue_b, tt) ∷ []) [] (numbers 2 4 2 168_000_005))
    [] (numbers 2 4 2 168_000_008) 2 168_000_008)
    (command.Deregister 1)
    (Ok (plan (tx 168_000_008 (transition.Deregister 1 ∷ [])) ((row_of.Process 1, Alone) ∷ []) (answer.Deregistered 1 0)))

-- deregister: two transitions
abbrev case_9 : Case
case_9 = begins
    (scene
    (world
    ((
      1,
      job (row 1 class_c queue_q (pos 5) 2 (counted (codes "[E, F]") 1 ∷ []) (Some drops_h)) (state.Claimed 2 (Some 1)),
    )
    ∷ (2, job (row 2 class_c queue_q (pos 0) 0 [] (Some drops_h)) (state.Ready (Some 1)))
    ∷ (
      3,
      job (row 3 class_d queue_b (negsuc 2) 0 (counted (codes "[E, F]") 1 ∷ []) (Some drops_g))
          (state.Claimed 2 (Some 2)),
    )
    ∷ (
      4,
      job (row 4 class_b queue_a (pos 5) 2 (counted (codes "[E, F]") 1 ∷ []) (Some waits_g))
          (state.Blocked 297_000_007),
    )
    ∷ [])
    ((key_g, semaphore 2 1 0 126_000_004) ∷ (key_h, semaphore 1 2 0 317_000_007) ∷ [])
    ((2, process kind.Worker 65_000_003 65_000_003) ∷ []) [] [] (numbers 5 3 3 247_000_007))
    ((3, plan (tx 247_000_009 []) [] (answer.Pruned 0 None)) ∷ []) (numbers 5 3 3 247_000_009) 1000 247_000_009)
    (command.Deregister 2)
    (Ok
    (plan (tx 247_000_009 (transition.Release 1 ∷ transition.Release 3 ∷ transition.Deregister 2 ∷ []))
    ((row_of.Job 1, Alone) ∷ (row_of.Job 3, Alone) ∷ (row_of.Process 2, Alone) ∷ []) (answer.Deregistered 2 2)))

-- dispatch: numbers spent
abbrev case_10 : Case
case_10 = begins
    (scene
    (world
    ((1, job (row 1 class_c queue_b (negsuc 2) 65_535 [] (Some drops_h)) (state.Scheduled 65_000_003))
    ∷ (
      2,
      job (row 2 class_b queue_ab (pos 0) 0 (counted (codes "[K]") 4 ∷ counted (codes "[E]") 1 ∷ []) (Some waits_g))
          (state.Claimed 1 (Some 1)),
    )
    ∷ (
      3,
      job (row 3 class_c queue_ab (negsuc 2) 0 (counted (codes "[K]") 4 ∷ counted (codes "[E]") 1 ∷ []) None)
          (state.Scheduled 96_000_007),
    )
    ∷ (5, job (row 5 class_b queue_q (pos 0) 2 [] (Some waits_g)) (state.Blocked 222_000_012))
    ∷ (
      6,
      job (row 6 class_b queue_b (negsuc 2) 2 (counted (codes "[E, F]") 1 ∷ []) (Some waits_g))
          (state.Blocked 222_000_012),
    )
    ∷ (
      7,
      job
          (row 7 class_c queue_ab (pos 5) 2 (counted (codes "[E, F]") 1 ∷ [])
          (Some (limit (codes "h/-7") 2 70_000_000 true)))
          (state.Ready (Some 2)),
    )
    ∷ [])
    ((key_g, semaphore 1 1 0 115_000_004) ∷ (codes "h/-7", semaphore 2 2 1 242_000_012) ∷ [])
    ((1, process kind.Worker 0 0) ∷ (2, process kind.Dispatcher 96_000_007 96_000_007) ∷ []) ((queue_a, tt) ∷ []) []
    (numbers 8 3 3 172_000_012))
    [] (numbers 9_223_372_036_854_775_809 9_223_372_036_854_775_808 9_223_372_036_854_775_809 172_000_012) 1000 172_000_012)
    command.Dispatch
    (Err (NumbersSpent 9_223_372_036_854_775_809))

-- dispatch: nothing
abbrev case_11 : Case
case_11 = begins
    (scene
    (world [] [] ((1, process kind.Worker 1 1) ∷ (2, process kind.Worker 35_000_003 35_000_003) ∷ []) [] []
    (numbers 1 3 1 35_000_003))
    [] (numbers 1 3 1 35_000_004) 1000 35_000_004)
    command.Dispatch
    (Ok (plan (tx 35_000_004 []) [] (answer.Count 0)))

-- dispatch: one transition
abbrev case_12 : Case
case_12 = begins
    (scene
    (world
    ((
      1,
      job (row 1 class_c queue_a (pos 5) 65_535 (counted (codes "[E, F]") 1 ∷ []) (Some drops_h))
          (state.Scheduled 120_000_002),
    )
    ∷ [])
    [] ((1, process kind.Worker 30_000_001 30_000_001) ∷ []) [] [] (numbers 2 2 1 120_000_001))
    [] (numbers 2 2 1 120_000_002) 2 120_000_002)
    command.Dispatch
    (Ok
    (plan (tx 120_000_002 (transition.Dispatch 1 (put.Ready (Some 1)) ∷ []))
    ((row_of.Job 1, Alone) ∷ (row_of.Key key_h, Alone) ∷ []) (answer.Count 1)))

-- dispatch: two transitions
abbrev case_13 : Case
case_13 = begins
    (scene
    (world
    ((
      1,
      job (row 1 class_c queue_ab (pos 0) 0 (counted (codes "[K]") 4 ∷ counted (codes "[E]") 1 ∷ []) None)
          (state.Scheduled 5_000_002),
    )
    ∷ (2, job (row 2 class_a queue_q (pos 0) 2 (counted (codes "[E, F]") 1 ∷ []) None) (state.Ready None))
    ∷ (
      3,
      job (row 3 class_c queue_b (pos 5) 2 (counted (codes "[K]") 4 ∷ counted (codes "[E]") 1 ∷ []) None)
          (state.Scheduled 70_000_043),
    )
    ∷ (
      4,
      job (row 4 class_d queue_a (pos 5) 2 (counted (codes "[K]") 4 ∷ counted (codes "[E]") 1 ∷ []) (Some drops_g))
          (state.Claimed 1 (Some 1)),
    )
    ∷ [])
    ((key_g, semaphore 1 1 0 130_000_003) ∷ []) ((1, process kind.Worker 5_000_001 5_000_001) ∷ []) [] []
    (numbers 5 2 2 70_000_004))
    [] (numbers 5 2 2 120_000_005) 4 120_000_005)
    command.Dispatch
    (Ok
    (plan (tx 120_000_005 (transition.Dispatch 1 (put.Ready None) ∷ transition.Dispatch 3 (put.Ready None) ∷ []))
    ((row_of.Job 1, Alone) ∷ (row_of.Job 3, Alone) ∷ []) (answer.Count 2)))

-- expire: nothing
abbrev case_14 : Case
case_14 = begins
    (scene (world [] [] ((1, process kind.Worker 1 1) ∷ []) [] [] (numbers 1 2 1 1)) [] (numbers 1 2 1 91_000_004) 1000
    91_000_004)
    command.Expire
    (Ok (plan (tx 91_000_004 []) [] (answer.Count 0)))

-- expire: one transition
abbrev case_15 : Case
case_15 = begins
    (scene
    (world
    ((1, job (row 1 class_c queue_q (pos 0) 0 (counted (codes "[E, F]") 1 ∷ []) None) (state.Ready None))
    ∷ (
      2,
      job (row 2 class_b queue_ab (pos 5) 0 (counted (codes "[E, F]") 1 ∷ []) (Some waits_g)) (state.Ready (Some 1)),
    )
    ∷ (
      3,
      job (row 3 class_c queue_q (pos 5) 65_535 (counted (codes "[K]") 4 ∷ counted (codes "[E]") 1 ∷ []) None)
          (state.Ready None),
    )
    ∷ [])
    ((key_g, semaphore 1 1 0 111_000_002) ∷ []) ((1, process kind.Worker 1 1) ∷ []) [] [] (numbers 4 2 2 61_000_002))
    [] (numbers 4 2 2 263_000_006) 3 263_000_006)
    command.Expire
    (Ok (plan (tx 263_000_006 (transition.Expire key_g ∷ [])) ((row_of.Key key_g, Alone) ∷ []) (answer.Count 1)))

-- expire: two transitions
abbrev case_16 : Case
case_16 = begins
    (scene
    (world
    ((
      1,
      job
          (row 1 class_c queue_q (negsuc 2) 65_535 (counted (codes "[K]") 4 ∷ counted (codes "[E]") 1 ∷ [])
          (Some drops_h))
          (state.Ready (Some 1)),
    )
    ∷ (
      2,
      job (row 2 class_d queue_q (pos 0) 2 (counted (codes "[K]") 4 ∷ counted (codes "[E]") 1 ∷ []) (Some drops_g))
          (state.Scheduled 6_000_042),
    )
    ∷ (3, job (row 3 class_b queue_a (pos 0) 65_535 [] (Some waits_g)) (state.Ready (Some 2)))
    ∷ [])
    ((key_g, semaphore 2 1 0 68_000_006) ∷ (key_h, semaphore 1 2 1 76_000_002) ∷ []) ((1, process kind.Worker 1 1) ∷ [])
    [] [] (numbers 4 2 3 18_000_006))
    [] (numbers 4 2 3 218_000_008) 1000 218_000_008)
    command.Expire
    (Ok
    (plan (tx 218_000_008 (transition.Expire key_g ∷ transition.Expire key_h ∷ []))
    ((row_of.Key key_g, Alone) ∷ (row_of.Key key_h, Alone) ∷ []) (answer.Count 2)))

-- prune: nothing
abbrev case_17 : Case
case_17 = begins
    (scene (world [] [] ((1, process kind.Worker 30_000_000 30_000_000) ∷ []) [] [] (numbers 1 2 1 30_000_000)) []
    (numbers 1 2 1 90_000_004) 1000 90_000_004)
    command.Prune
    (Ok (plan (tx 90_000_004 []) [] (answer.Pruned 0 None)))

-- prune: one transition
abbrev case_18 : Case
case_18 = begins
    (scene (world [] [] ((1, process kind.Worker 1 31_000_003) ∷ []) [] [] (numbers 1 2 1 31_000_003)) []
    (numbers 1 2 1 326_000_004) 1000 326_000_004)
    command.Prune
    (Ok (plan (tx 326_000_004 (transition.Deregister 1 ∷ [])) ((row_of.Process 1, Alone) ∷ []) (answer.Pruned 0 (Some 1))))

-- prune: two transitions
abbrev case_19 : Case
case_19 = begins
    (scene
    (world
    ((
      1,
      job (row 1 class_c queue_ab (negsuc 2) 65_535 (counted (codes "[K]") 4 ∷ counted (codes "[E]") 1 ∷ []) None)
          (state.Claimed 1 None),
    )
    ∷ (
      2,
      job
          (row 2 class_c queue_a (pos 5) 65_535 (counted (codes "[K]") 4 ∷ counted (codes "[E]") 1 ∷ [])
          (Some drops_h))
          (state.Ready (Some 1)),
    )
    ∷ [])
    ((key_h, semaphore 1 2 1 256_000_004) ∷ []) ((1, process kind.Worker 0 0) ∷ []) ((queue_a, tt) ∷ []) []
    (numbers 3 2 2 186_000_004))
    [] (numbers 3 2 2 386_000_004) 1000 386_000_004)
    command.Prune
    (Ok
    (plan
    (tx 386_000_004
    (transition.Fail 1 (codes "ProcessPrunedError") (codes "pruned: last beat 0") None
    ∷ transition.Deregister 1
    ∷ []))
    ((row_of.Job 1, Alone) ∷ (row_of.Process 1, Alone) ∷ []) (answer.Pruned 1 (Some 1))))

-- register: numbers spent
abbrev case_20 : Case
case_20 = begins
    (scene
    (world
    ((
      1,
      job (row 1 class_c queue_a (pos 0) 65_535 (counted (codes "[K]") 4 ∷ counted (codes "[E]") 1 ∷ []) (Some drops_h))
          (state.Scheduled 5_000_003),
    )
    ∷ (
      2,
      job (row 2 class_d queue_a (pos 5) 0 (counted (codes "[K]") 4 ∷ counted (codes "[E]") 1 ∷ []) (Some drops_g))
          (state.Ready (Some 1)),
    )
    ∷ [])
    ((key_g, semaphore 1 1 0 126_000_006) ∷ [])
    ((1, process kind.Worker 1 1) ∷ (2, process kind.Worker 96_000_008 96_000_008) ∷ []) [] []
    (numbers 3 3 2 96_000_008))
    ((1, plan (tx 146_000_008 []) ((row_of.Queue queue_a, Alone) ∷ []) (answer.Paused false queue_a))
    ∷ (3, plan (tx 146_000_008 []) [] (answer.Pruned 0 None))
    ∷ [])
    (numbers 9_223_372_036_854_775_807 9_223_372_036_854_775_809 9_223_372_036_854_775_807 146_000_008) 1000 146_000_008)
    (command.Register kind.Worker (codes "w"))
    (Err (NumbersSpent 9_223_372_036_854_775_809))

-- register: one transition
abbrev case_21 : Case
case_21 = begins
    (scene
    (world
    ((
      1,
      job (row 1 class_d queue_ab (pos 0) 2 (counted (codes "[K]") 4 ∷ counted (codes "[E]") 1 ∷ []) (Some drops_g))
          (state.Claimed 1 (Some 1)),
    )
    ∷ [])
    ((key_g, semaphore 1 1 0 152_000_002) ∷ []) ((1, process kind.Worker 60_000_000 60_000_000) ∷ []) [] []
    (numbers 2 2 2 97_000_002))
    [] (numbers 2 2 2 98_000_004) 1000 98_000_004)
    (command.Register kind.Worker (codes "w"))
    (Ok
    (plan (tx 98_000_004 (transition.Register 2 kind.Worker (codes "w") ∷ [])) ((row_of.Process 2, Alone) ∷ [])
    (answer.Registered 2)))

-- unblock: nothing
abbrev case_22 : Case
case_22 = begins
    (scene (world [] [] ((1, process kind.Worker 5_000_001 5_000_001) ∷ []) [] [] (numbers 1 2 1 5_000_001)) []
    (numbers 1 2 1 70_000_002) 1 70_000_002)
    command.Unblock
    (Ok (plan (tx 70_000_002 []) [] (answer.Count 0)))

-- unblock: unblocks
abbrev case_23 : Case
case_23 = begins
    (scene
    (world
    ((1, job (row 1 class_b queue_ab (pos 0) 0 [] (Some waits_g)) (state.Finished 66_000_005))
    ∷ (
      2,
      job (row 2 class_b queue_ab (negsuc 2) 0 (counted (codes "[E, F]") 1 ∷ []) (Some waits_g))
          (state.Ready (Some 1)),
    )
    ∷ (
      3,
      job (row 3 class_b queue_ab (pos 0) 1 (counted (codes "[StandardError]") 1 ∷ []) (Some waits_g))
          (state.Blocked 116_000_005),
    )
    ∷ (
      4,
      job (row 4 class_b queue_q (pos 5) 2 (counted (codes "[E, F]") 1 ∷ []) (Some waits_g))
          (state.Blocked 364_000_008),
    )
    ∷ [])
    [] ((1, process kind.Worker 0 36_000_004) ∷ []) ((queue_b, tt) ∷ []) [] (numbers 5 2 2 344_000_008))
    [] (numbers 5 2 2 344_000_008) 1000 344_000_008)
    command.Unblock
    (Ok
    (plan (tx 344_000_008 (transition.Unblock 3 2 ∷ [])) ((row_of.Job 3, Alone) ∷ (row_of.Key key_g, Alone) ∷ []) (answer.Count 1)))

abbrev pub upkeep_cases : List Case
upkeep_cases =
    case_1 ∷ case_2 ∷ case_3 ∷ case_4 ∷ case_5 ∷ case_6 ∷ case_7 ∷ case_8 ∷ case_9 ∷ case_10 ∷ case_11 ∷ case_12 ∷ case_13 ∷ case_14 ∷ case_15 ∷ case_16 ∷ case_17 ∷ case_18 ∷ case_19 ∷ case_20 ∷ case_21 ∷ case_22 ∷ case_23 ∷ []
