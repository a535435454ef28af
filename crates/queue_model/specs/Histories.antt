-- Histories that an independent model of the store made at random: what it says of each is what a replay says.
use Rattle.std.specs.Prelude.{ℕ, ℤ, Bool, List, [], ◌∷◌, codes, pos, negsuc, true, false, Option, None, Some}
use Rattle.job_states.specs.declared.command.Kind.TheVariants.{Worker}
use Rattle.job_states.specs.declared.job.Counted.{Counted}
use Rattle.job_states.specs.declared.job.JobRow.{JobRow}
use Rattle.job_states.specs.declared.job.Limited.{Limited}
use Rattle.job_states.specs.declared.job.State.TheVariants as state
use Rattle.job_states.specs.declared.transition.Counters.{Counters}
use Rattle.job_states.specs.declared.transition.Put.TheVariants.{Ready, Scheduled, Blocked, Away}
use Rattle.job_states.specs.declared.transition.Transaction.{Transaction}
use Rattle.job_states.specs.declared.transition.Transition.{Transition}
use Rattle.job_states.specs.declared.transition.Transition.TheVariants.{Enqueue, Dispatch, Claim, Done, Fail, Release, Unblock, Retry, Discard, Clear, Register, Beat, Deregister, Pause, Resume, Expire, Run}
use Rattle.semaphores.specs.Semaphore.{semaphore}
use Rattle.queue_model.specs.Map as map
use Rattle.queue_model.specs.World.{World, job}

abbrev name : List ℕ
name = codes "n"

abbrev message : List ℕ
message = codes "message"

abbrev key_x : List ℕ
key_x = codes "g/x"

abbrev key_y : List ℕ
key_y = codes "g/y"

abbrev x : Bool → Limited
x discard = record { key = key_x; to = 1; duration = 50; discard = discard }

abbrev y : Bool → Limited
y discard = record { key = key_y; to = 2; duration = 70; discard = discard }

abbrev errors : ℕ → List Counted
errors count = record { list = codes "[E]"; count = count } ∷ []

abbrev counters : Counters
counters = record { executions = 3; counts = errors 2 }

abbrev row : ℕ → ℤ → (executions : ℕ) → List Counted → Option Limited → JobRow
row id priority executions counts limited = record { id = id; class = name; queue = name; priority = priority; active_id = name; envelope = codes "{}"; executions = executions; counts = counts; limited = limited }

abbrev tx : ℕ → List Transition → Transaction
tx moment steps = record { moment = moment; steps = steps }

-- ---- histories that are legal, each with the world that it leaves

abbrev history_1 : List Transaction
history_1 =
    tx 0 (Register 1 Worker name ∷ [])
    ∷ tx 60 (Pause name ∷ [])
    ∷ tx 60 (Enqueue (row 3 (pos 0) 2 (errors 1) (Some (x false))) (Ready (Some 3)) ∷ Enqueue (row 1 (pos 0) 2 [] (Some (x false))) (Blocked 110) ∷ [])
    ∷ tx 60 (Claim 3 1 ∷ [])
    ∷ tx 61 (Fail 3 name message (Some counters) ∷ [])
    ∷ tx 66 (Unblock 1 3 ∷ Discard 3 ∷ [])
    ∷ tx 66 (Enqueue (row 4 (negsuc 2) 0 (errors 1) (Some (x true))) (Blocked 116) ∷ [])
    ∷ tx 67 (Run name 67 None ∷ Enqueue (row 2 (negsuc 2) 0 (errors 1) (Some (x false))) (Scheduled 68) ∷ [])
    ∷ tx 72 (Run name 72 (Some 4) ∷ [])
    ∷ tx 132 (Beat 1 ∷ [])
    ∷ tx 137 (Run name 136 (Some 2) ∷ Enqueue (row 3 (negsuc 2) 0 [] (Some (x false))) (Blocked 187) ∷ Discard 4 ∷ [])
    ∷ tx 197 (Expire key_x ∷ Run name 197 None ∷ Discard 2 ∷ [])
    ∷ tx 202 (Beat 1 ∷ Enqueue (row 2 (negsuc 2) 2 [] None) (Ready None) ∷ [])
    ∷ tx 207 (Claim 1 1 ∷ [])
    ∷ tx 267 (Run name 267 None ∷ Resume name ∷ [])
    ∷ tx 267 (Unblock 3 2 ∷ Discard 3 ∷ [])
    ∷ tx 327 (Release 1 ∷ [])
    ∷ []

abbrev world_1 : World
world_1 = record {
  jobs = map.from_entries (
      (1, job (row 1 (pos 0) 2 [] (Some (x false))) (state.Ready (Some 3)))
      ∷ (2, job (row 2 (negsuc 2) 2 [] None) (state.Ready None))
      ∷ []);
  semaphores = map.from_entries ((key_x, semaphore 2 1 1 317) ∷ []);
  processes = map.from_entries ((1, record { kind = Worker; name = name; since = 0; beat = 202 }) ∷ []);
  paused = map.empty;
  last_runs = map.from_entries ((name, 267) ∷ []);
  recurring = map.empty;
  numbers = record { job = 5; pid = 2; generation = 4; moment = 327 };
}

abbrev history_2 : List Transaction
history_2 =
    tx 0 (Register 1 Worker name ∷ [])
    ∷ tx 1 (Enqueue (row 4 (negsuc 2) 0 (errors 1) (Some (x true))) (Ready (Some 2)) ∷ [])
    ∷ tx 31 (Discard 4 ∷ Enqueue (row 2 (negsuc 2) 2 (errors 1) (Some (x true))) (Ready (Some 2)) ∷ Claim 2 1 ∷ [])
    ∷ tx 61 (Done 2 ∷ [])
    ∷ tx 66 (Clear 2 ∷ [])
    ∷ tx 71 (Beat 1 ∷ Enqueue (row 2 (pos 0) 2 (errors 1) None) (Ready None) ∷ Enqueue (row 4 (pos 0) 0 [] None) (Ready None) ∷ [])
    ∷ tx 131 (Enqueue (row 1 (negsuc 2) 2 (errors 1) (Some (x true))) (Ready (Some 2)) ∷ [])
    ∷ tx 132 (Discard 4 ∷ [])
    ∷ tx 192 (Expire key_x ∷ [])
    ∷ tx 192 (Claim 2 1 ∷ [])
    ∷ tx 192 (Run name 191 (Some 2) ∷ [])
    ∷ tx 193 (Release 2 ∷ [])
    ∷ tx 253 (Claim 1 1 ∷ [])
    ∷ tx 258 (Release 1 ∷ Claim 1 1 ∷ [])
    ∷ tx 288 (Run name 288 None ∷ [])
    ∷ tx 318 (Claim 2 1 ∷ [])
    ∷ tx 318 (Done 1 ∷ [])
    ∷ []

abbrev world_2 : World
world_2 = record {
  jobs = map.from_entries (
      (1, job (row 1 (negsuc 2) 2 (errors 1) (Some (x true))) (state.Finished 318))
      ∷ (2, job (row 2 (pos 0) 2 (errors 1) None) (state.Claimed 1 None))
      ∷ []);
  semaphores = map.empty;
  processes = map.from_entries ((1, record { kind = Worker; name = name; since = 0; beat = 71 }) ∷ []);
  paused = map.empty;
  last_runs = map.from_entries ((name, 288) ∷ []);
  recurring = map.from_entries (((name, 191), 2) ∷ []);
  numbers = record { job = 5; pid = 2; generation = 3; moment = 318 };
}

abbrev history_3 : List Transaction
history_3 =
    tx 0 (Register 1 Worker name ∷ [])
    ∷ tx 5 (Beat 1 ∷ Enqueue (row 1 (pos 0) 0 (errors 1) (Some (y false))) (Ready (Some 1)) ∷ Pause name ∷ [])
    ∷ tx 35 (Run name 35 None ∷ [])
    ∷ tx 40 (Claim 1 1 ∷ Run name 40 None ∷ Done 1 ∷ [])
    ∷ tx 40 (Clear 1 ∷ [])
    ∷ tx 70 (Enqueue (row 4 (pos 0) 0 (errors 1) None) (Ready None) ∷ Deregister 1 ∷ [])
    ∷ tx 71 (Run name 70 None ∷ [])
    ∷ tx 72 (Resume name ∷ Enqueue (row 1 (pos 5) 2 [] (Some (x false))) (Ready (Some 2)) ∷ Run name 71 None ∷ [])
    ∷ tx 77 (Register 2 Worker name ∷ Enqueue (row 2 (pos 5) 2 [] None) (Ready None) ∷ Deregister 2 ∷ [])
    ∷ tx 107 (Register 1 Worker name ∷ Pause name ∷ Claim 1 1 ∷ [])
    ∷ tx 108 (Done 1 ∷ Resume name ∷ Clear 1 ∷ [])
    ∷ tx 108 (Claim 2 1 ∷ [])
    ∷ tx 168 (Done 2 ∷ [])
    ∷ tx 198 (Enqueue (row 1 (pos 5) 0 [] None) (Ready None) ∷ [])
    ∷ tx 199 (Claim 1 1 ∷ [])
    ∷ tx 229 (Claim 4 1 ∷ [])
    ∷ tx 259 (Fail 4 name message None ∷ Done 1 ∷ [])
    ∷ []

abbrev world_3 : World
world_3 = record {
  jobs = map.from_entries (
      (1, job (row 1 (pos 5) 0 [] None) (state.Finished 259))
      ∷ (2, job (row 2 (pos 5) 2 [] None) (state.Finished 168))
      ∷ (4, job (row 4 (pos 0) 0 (errors 1) None) (state.Failed name message))
      ∷ []);
  semaphores = map.from_entries (
      (key_x, semaphore 2 1 1 158)
      ∷ (key_y, semaphore 1 2 2 110)
      ∷ []);
  processes = map.from_entries ((1, record { kind = Worker; name = name; since = 107; beat = 107 }) ∷ []);
  paused = map.empty;
  last_runs = map.from_entries ((name, 71) ∷ []);
  recurring = map.empty;
  numbers = record { job = 5; pid = 3; generation = 3; moment = 259 };
}

abbrev history_4 : List Transaction
history_4 =
    tx 0 (Register 1 Worker name ∷ [])
    ∷ tx 30 (Enqueue (row 1 (pos 0) 2 [] (Some (x false))) (Scheduled 31) ∷ Deregister 1 ∷ [])
    ∷ tx 31 (Enqueue (row 2 (pos 5) 0 (errors 1) (Some (x true))) (Ready (Some 2)) ∷ Run name 30 (Some 1) ∷ [])
    ∷ tx 31 (Discard 1 ∷ [])
    ∷ tx 61 (Enqueue (row 1 (pos 5) 0 (errors 1) (Some (x false))) (Blocked 111) ∷ Run name 61 None ∷ Enqueue (row 3 (pos 5) 0 (errors 1) (Some (x false))) (Blocked 111) ∷ [])
    ∷ tx 66 (Run name 65 None ∷ [])
    ∷ tx 66 (Enqueue (row 4 (pos 0) 2 (errors 1) (Some (x false))) (Blocked 116) ∷ Discard 3 ∷ [])
    ∷ tx 96 (Register 2 Worker name ∷ Enqueue (row 3 (pos 5) 2 [] (Some (y false))) (Ready (Some 2)) ∷ Run name 95 None ∷ [])
    ∷ tx 156 (Deregister 2 ∷ [])
    ∷ tx 161 (Discard 4 ∷ [])
    ∷ tx 221 (Expire key_x ∷ [])
    ∷ tx 281 (Enqueue (row 4 (negsuc 2) 0 (errors 1) (Some (x false))) (Scheduled 282) ∷ [])
    ∷ tx 286 (Expire key_y ∷ [])
    ∷ tx 316 (Unblock 1 3 ∷ Discard 4 ∷ Pause name ∷ [])
    ∷ tx 346 (Discard 3 ∷ Enqueue (row 3 (pos 5) 2 (errors 1) (Some (x true))) (Scheduled 355) ∷ Discard 1 ∷ [])
    ∷ tx 351 (Enqueue (row 4 (pos 5) 2 [] None) (Ready None) ∷ [])
    ∷ tx 352 (Discard 2 ∷ [])
    ∷ []

abbrev world_4 : World
world_4 = record {
  jobs = map.from_entries (
      (3, job (row 3 (pos 5) 2 (errors 1) (Some (x true))) (state.Scheduled 355))
      ∷ (4, job (row 4 (pos 5) 2 [] None) (state.Ready None))
      ∷ []);
  semaphores = map.from_entries ((key_x, semaphore 3 1 1 396) ∷ []);
  processes = map.empty;
  paused = map.from_entries ((name, tt) ∷ []);
  last_runs = map.from_entries ((name, 95) ∷ []);
  recurring = map.empty;
  numbers = record { job = 5; pid = 3; generation = 4; moment = 352 };
}

abbrev history_5 : List Transaction
history_5 =
    tx 0 (Register 1 Worker name ∷ [])
    ∷ tx 5 (Enqueue (row 4 (pos 0) 2 (errors 1) None) (Ready None) ∷ Register 2 Worker name ∷ Enqueue (row 3 (negsuc 2) 0 [] (Some (x false))) (Ready (Some 3)) ∷ [])
    ∷ tx 10 (Claim 3 1 ∷ Enqueue (row 1 (negsuc 2) 2 (errors 1) None) (Ready None) ∷ [])
    ∷ tx 40 (Claim 1 1 ∷ Fail 3 name message None ∷ [])
    ∷ tx 70 (Beat 1 ∷ [])
    ∷ tx 70 (Release 1 ∷ [])
    ∷ tx 130 (Claim 4 2 ∷ [])
    ∷ tx 190 (Done 4 ∷ Pause name ∷ [])
    ∷ tx 220 (Clear 4 ∷ [])
    ∷ tx 250 (Enqueue (row 2 (negsuc 2) 2 [] (Some (y false))) (Ready (Some 3)) ∷ [])
    ∷ tx 255 (Claim 1 1 ∷ [])
    ∷ tx 315 (Beat 1 ∷ Beat 2 ∷ [])
    ∷ tx 320 (Fail 1 name message (Some counters) ∷ [])
    ∷ tx 380 (Claim 2 2 ∷ Fail 2 name message (Some counters) ∷ Discard 2 ∷ [])
    ∷ tx 385 (Deregister 2 ∷ Enqueue (row 2 (negsuc 2) 2 (errors 1) (Some (x true))) (Scheduled 394) ∷ [])
    ∷ tx 415 (Discard 1 ∷ [])
    ∷ tx 416 (Retry 3 (Ready (Some 3)) ∷ [])
    ∷ []

abbrev world_5 : World
world_5 = record {
  jobs = map.from_entries (
      (2, job (row 2 (negsuc 2) 2 (errors 1) (Some (x true))) (state.Scheduled 394))
      ∷ (3, job (row 3 (negsuc 2) 0 [] (Some (x false))) (state.Ready (Some 3)))
      ∷ []);
  semaphores = map.from_entries (
      (key_x, semaphore 3 1 0 466)
      ∷ (key_y, semaphore 3 2 2 450)
      ∷ []);
  processes = map.from_entries ((1, record { kind = Worker; name = name; since = 0; beat = 315 }) ∷ []);
  paused = map.from_entries ((name, tt) ∷ []);
  last_runs = map.empty;
  recurring = map.empty;
  numbers = record { job = 5; pid = 3; generation = 4; moment = 416 };
}

abbrev history_6 : List Transaction
history_6 =
    tx 0 (Register 1 Worker name ∷ [])
    ∷ tx 0 (Enqueue (row 1 (pos 0) 0 [] (Some (y true))) (Scheduled 1) ∷ [])
    ∷ tx 60 (Run name 59 None ∷ [])
    ∷ tx 61 (Run name 61 None ∷ [])
    ∷ tx 61 (Beat 1 ∷ [])
    ∷ tx 66 (Enqueue (row 4 (pos 0) 2 [] (Some (x false))) (Ready (Some 3)) ∷ Register 2 Worker name ∷ Claim 4 2 ∷ [])
    ∷ tx 71 (Deregister 1 ∷ Enqueue (row 3 (pos 5) 2 (errors 1) None) (Ready None) ∷ Fail 4 name message (Some counters) ∷ [])
    ∷ tx 71 (Run name 71 (Some 1) ∷ [])
    ∷ tx 101 (Discard 3 ∷ [])
    ∷ tx 102 (Discard 4 ∷ Run name 102 None ∷ [])
    ∷ tx 103 (Enqueue (row 4 (pos 0) 2 [] (Some (y false))) (Ready (Some 3)) ∷ Discard 1 ∷ [])
    ∷ tx 103 (Enqueue (row 3 (negsuc 2) 2 (errors 1) None) (Ready None) ∷ Run name 103 None ∷ Register 1 Worker name ∷ [])
    ∷ tx 108 (Enqueue (row 1 (negsuc 2) 2 [] (Some (x false))) (Ready (Some 3)) ∷ [])
    ∷ tx 109 (Deregister 2 ∷ Claim 1 1 ∷ Run name 108 None ∷ [])
    ∷ tx 109 (Fail 1 name message (Some counters) ∷ [])
    ∷ tx 110 (Claim 4 1 ∷ Fail 4 name message None ∷ [])
    ∷ tx 110 (Retry 4 (Ready (Some 3)) ∷ [])
    ∷ []

abbrev world_6 : World
world_6 = record {
  jobs = map.from_entries (
      (1, job (row 1 (negsuc 2) 3 (errors 2) (Some (x false))) (state.Failed name message))
      ∷ (3, job (row 3 (negsuc 2) 2 (errors 1) None) (state.Ready None))
      ∷ (4, job (row 4 (pos 0) 0 [] (Some (y false))) (state.Ready (Some 3)))
      ∷ []);
  semaphores = map.from_entries (
      (key_x, semaphore 3 1 1 159)
      ∷ (key_y, semaphore 3 2 1 180)
      ∷ []);
  processes = map.from_entries ((1, record { kind = Worker; name = name; since = 103; beat = 103 }) ∷ []);
  paused = map.empty;
  last_runs = map.from_entries ((name, 108) ∷ []);
  recurring = map.empty;
  numbers = record { job = 5; pid = 3; generation = 4; moment = 110 };
}

abbrev history_7 : List Transaction
history_7 =
    tx 0 (Register 1 Worker name ∷ [])
    ∷ tx 1 (Enqueue (row 2 (pos 0) 2 (errors 1) (Some (y false))) (Ready (Some 1)) ∷ Pause name ∷ [])
    ∷ tx 61 (Run name 60 None ∷ Resume name ∷ [])
    ∷ tx 66 (Pause name ∷ [])
    ∷ tx 66 (Claim 2 1 ∷ [])
    ∷ tx 96 (Expire key_y ∷ Enqueue (row 3 (pos 5) 2 (errors 1) (Some (y true))) (Scheduled 105) ∷ Run name 95 (Some 3) ∷ [])
    ∷ tx 96 (Discard 3 ∷ [])
    ∷ tx 101 (Done 2 ∷ [])
    ∷ tx 102 (Run name 102 None ∷ [])
    ∷ tx 132 (Beat 1 ∷ Enqueue (row 4 (negsuc 2) 0 (errors 1) None) (Scheduled 133) ∷ Enqueue (row 1 (pos 5) 2 [] (Some (x true))) (Ready (Some 2)) ∷ [])
    ∷ tx 162 (Clear 2 ∷ [])
    ∷ tx 162 (Discard 1 ∷ Dispatch 4 (Ready None) ∷ [])
    ∷ tx 222 (Run name 221 None ∷ [])
    ∷ tx 227 (Register 2 Worker name ∷ [])
    ∷ tx 287 (Resume name ∷ [])
    ∷ tx 347 (Claim 4 2 ∷ [])
    ∷ tx 347 (Fail 4 name message None ∷ [])
    ∷ []

abbrev world_7 : World
world_7 = record {
  jobs = map.from_entries ((4, job (row 4 (negsuc 2) 0 (errors 1) None) (state.Failed name message)) ∷ []);
  semaphores = map.from_entries ((key_x, semaphore 2 1 1 212) ∷ []);
  processes = map.from_entries (
      (1, record { kind = Worker; name = name; since = 0; beat = 132 })
      ∷ (2, record { kind = Worker; name = name; since = 227; beat = 227 })
      ∷ []);
  paused = map.empty;
  last_runs = map.from_entries ((name, 221) ∷ []);
  recurring = map.empty;
  numbers = record { job = 5; pid = 3; generation = 3; moment = 347 };
}

abbrev history_8 : List Transaction
history_8 =
    tx 0 (Register 1 Worker name ∷ [])
    ∷ tx 5 (Beat 1 ∷ Beat 1 ∷ Enqueue (row 2 (negsuc 2) 2 [] (Some (x true))) (Scheduled 14) ∷ [])
    ∷ tx 65 (Enqueue (row 1 (negsuc 2) 2 [] (Some (x false))) (Scheduled 74) ∷ Discard 1 ∷ [])
    ∷ tx 70 (Run name 69 None ∷ Beat 1 ∷ [])
    ∷ tx 130 (Run name 130 None ∷ [])
    ∷ tx 135 (Run name 135 None ∷ [])
    ∷ tx 135 (Discard 2 ∷ Enqueue (row 1 (pos 0) 2 [] (Some (y false))) (Ready (Some 3)) ∷ [])
    ∷ tx 195 (Run name 195 None ∷ Pause name ∷ Enqueue (row 4 (pos 0) 0 (errors 1) None) (Scheduled 196) ∷ [])
    ∷ tx 255 (Claim 1 1 ∷ Done 1 ∷ [])
    ∷ tx 260 (Dispatch 4 (Ready None) ∷ [])
    ∷ tx 260 (Enqueue (row 3 (negsuc 2) 0 [] (Some (x false))) (Ready (Some 2)) ∷ [])
    ∷ tx 290 (Beat 1 ∷ Resume name ∷ [])
    ∷ tx 320 (Expire key_x ∷ [])
    ∷ tx 320 (Claim 3 1 ∷ Fail 3 name message None ∷ [])
    ∷ tx 321 (Clear 1 ∷ Run name 320 None ∷ Beat 1 ∷ [])
    ∷ tx 321 (Discard 4 ∷ Pause name ∷ Run name 321 None ∷ [])
    ∷ tx 381 (Retry 3 (Ready (Some 2)) ∷ [])
    ∷ []

abbrev world_8 : World
world_8 = record {
  jobs = map.from_entries ((3, job (row 3 (negsuc 2) 0 [] (Some (x false))) (state.Ready (Some 2))) ∷ []);
  semaphores = map.from_entries (
      (key_x, semaphore 2 1 0 431)
      ∷ (key_y, semaphore 3 2 2 325)
      ∷ []);
  processes = map.from_entries ((1, record { kind = Worker; name = name; since = 0; beat = 321 }) ∷ []);
  paused = map.from_entries ((name, tt) ∷ []);
  last_runs = map.from_entries ((name, 321) ∷ []);
  recurring = map.empty;
  numbers = record { job = 5; pid = 2; generation = 4; moment = 381 };
}

abbrev history_9 : List Transaction
history_9 =
    tx 0 (Register 1 Worker name ∷ [])
    ∷ tx 30 (Enqueue (row 3 (pos 0) 2 (errors 1) None) (Scheduled 39) ∷ Pause name ∷ Enqueue (row 4 (pos 0) 2 [] (Some (x false))) (Ready (Some 1)) ∷ [])
    ∷ tx 60 (Enqueue (row 1 (negsuc 2) 0 (errors 1) (Some (x false))) (Scheduled 69) ∷ Run name 59 None ∷ Register 2 Worker name ∷ [])
    ∷ tx 90 (Deregister 2 ∷ [])
    ∷ tx 95 (Run name 95 None ∷ Discard 4 ∷ [])
    ∷ tx 95 (Resume name ∷ [])
    ∷ tx 125 (Enqueue (row 2 (pos 0) 0 (errors 1) (Some (x false))) (Scheduled 134) ∷ Run name 124 None ∷ [])
    ∷ tx 155 (Discard 3 ∷ Register 2 Worker name ∷ Beat 1 ∷ [])
    ∷ tx 215 (Expire key_x ∷ [])
    ∷ tx 215 (Enqueue (row 3 (negsuc 2) 2 (errors 1) (Some (x true))) (Scheduled 224) ∷ Beat 1 ∷ [])
    ∷ tx 220 (Discard 2 ∷ [])
    ∷ tx 250 (Dispatch 1 (Ready (Some 1)) ∷ [])
    ∷ tx 251 (Claim 1 2 ∷ Fail 1 name message (Some counters) ∷ Beat 1 ∷ [])
    ∷ tx 256 (Enqueue (row 2 (negsuc 2) 2 [] None) (Ready None) ∷ [])
    ∷ tx 286 (Pause name ∷ Claim 2 2 ∷ Done 2 ∷ [])
    ∷ tx 286 (Clear 2 ∷ [])
    ∷ tx 316 (Deregister 1 ∷ [])
    ∷ []

abbrev world_9 : World
world_9 = record {
  jobs = map.from_entries (
      (1, job (row 1 (negsuc 2) 3 (errors 2) (Some (x false))) (state.Failed name message))
      ∷ (3, job (row 3 (negsuc 2) 2 (errors 1) (Some (x true))) (state.Scheduled 224))
      ∷ []);
  semaphores = map.from_entries ((key_x, semaphore 1 1 1 301) ∷ []);
  processes = map.from_entries ((2, record { kind = Worker; name = name; since = 155; beat = 155 }) ∷ []);
  paused = map.from_entries ((name, tt) ∷ []);
  last_runs = map.from_entries ((name, 124) ∷ []);
  recurring = map.empty;
  numbers = record { job = 5; pid = 3; generation = 2; moment = 316 };
}

abbrev history_10 : List Transaction
history_10 =
    tx 0 (Register 1 Worker name ∷ [])
    ∷ tx 60 (Register 2 Worker name ∷ [])
    ∷ tx 120 (Pause name ∷ [])
    ∷ tx 121 (Run name 120 None ∷ [])
    ∷ tx 151 (Enqueue (row 4 (pos 0) 2 [] (Some (x true))) (Ready (Some 3)) ∷ Resume name ∷ Enqueue (row 1 (negsuc 2) 2 (errors 1) (Some (x false))) (Blocked 201) ∷ [])
    ∷ tx 152 (Claim 4 2 ∷ Beat 2 ∷ Done 4 ∷ [])
    ∷ tx 153 (Beat 1 ∷ [])
    ∷ tx 183 (Unblock 1 3 ∷ [])
    ∷ tx 243 (Enqueue (row 2 (pos 5) 2 [] (Some (x true))) (Blocked 293) ∷ Discard 2 ∷ Run name 243 None ∷ [])
    ∷ tx 303 (Run name 302 None ∷ [])
    ∷ tx 308 (Run name 307 (Some 1) ∷ [])
    ∷ tx 309 (Claim 1 1 ∷ Release 1 ∷ Clear 4 ∷ [])
    ∷ tx 339 (Discard 1 ∷ [])
    ∷ tx 340 (Pause name ∷ Enqueue (row 4 (pos 0) 0 (errors 1) None) (Ready None) ∷ Claim 4 1 ∷ [])
    ∷ tx 400 (Fail 4 name message None ∷ Resume name ∷ Pause name ∷ [])
    ∷ tx 405 (Expire key_x ∷ [])
    ∷ tx 435 (Run name 435 None ∷ Deregister 2 ∷ Retry 4 (Ready None) ∷ [])
    ∷ []

abbrev world_10 : World
world_10 = record {
  jobs = map.from_entries ((4, job (row 4 (pos 0) 0 [] None) (state.Ready None)) ∷ []);
  semaphores = map.empty;
  processes = map.from_entries ((1, record { kind = Worker; name = name; since = 0; beat = 153 }) ∷ []);
  paused = map.from_entries ((name, tt) ∷ []);
  last_runs = map.from_entries ((name, 435) ∷ []);
  recurring = map.empty;
  numbers = record { job = 5; pid = 3; generation = 4; moment = 435 };
}

abbrev history_11 : List Transaction
history_11 =
    tx 0 (Register 1 Worker name ∷ [])
    ∷ tx 5 (Enqueue (row 4 (negsuc 2) 0 [] None) (Scheduled 6) ∷ [])
    ∷ tx 65 (Enqueue (row 1 (negsuc 2) 0 (errors 1) (Some (x false))) (Ready (Some 3)) ∷ [])
    ∷ tx 65 (Discard 1 ∷ [])
    ∷ tx 70 (Enqueue (row 1 (pos 5) 0 (errors 1) None) (Ready None) ∷ [])
    ∷ tx 100 (Discard 4 ∷ Register 2 Worker name ∷ Discard 1 ∷ [])
    ∷ tx 160 (Run name 159 None ∷ Deregister 1 ∷ Deregister 2 ∷ [])
    ∷ tx 165 (Enqueue (row 4 (pos 0) 2 [] None) (Ready None) ∷ [])
    ∷ tx 225 (Enqueue (row 2 (pos 5) 2 (errors 1) (Some (x true))) (Ready (Some 3)) ∷ Register 1 Worker name ∷ [])
    ∷ tx 255 (Run name 255 None ∷ Beat 1 ∷ Pause name ∷ [])
    ∷ tx 285 (Run name 284 (Some 2) ∷ [])
    ∷ tx 285 (Enqueue (row 3 (pos 0) 0 [] (Some (x false))) (Blocked 335) ∷ [])
    ∷ tx 290 (Enqueue (row 1 (pos 5) 2 (errors 1) (Some (x true))) (Scheduled 299) ∷ Discard 4 ∷ [])
    ∷ tx 291 (Beat 1 ∷ Enqueue (row 4 (pos 0) 0 [] (Some (x false))) (Blocked 341) ∷ [])
    ∷ tx 292 (Run name 291 None ∷ Claim 2 1 ∷ [])
    ∷ tx 292 (Release 2 ∷ Claim 2 1 ∷ [])
    ∷ tx 292 (Expire key_x ∷ Unblock 3 1 ∷ Fail 2 name message None ∷ [])
    ∷ []

abbrev world_11 : World
world_11 = record {
  jobs = map.from_entries (
      (1, job (row 1 (pos 5) 2 (errors 1) (Some (x true))) (state.Scheduled 299))
      ∷ (2, job (row 2 (pos 5) 2 (errors 1) (Some (x true))) (state.Failed name message))
      ∷ (3, job (row 3 (pos 0) 0 [] (Some (x false))) (state.Ready (Some 1)))
      ∷ (4, job (row 4 (pos 0) 0 [] (Some (x false))) (state.Blocked 341))
      ∷ []);
  semaphores = map.from_entries ((key_x, semaphore 1 1 0 342) ∷ []);
  processes = map.from_entries ((1, record { kind = Worker; name = name; since = 225; beat = 291 }) ∷ []);
  paused = map.from_entries ((name, tt) ∷ []);
  last_runs = map.from_entries ((name, 291) ∷ []);
  recurring = map.from_entries (((name, 284), 2) ∷ []);
  numbers = record { job = 5; pid = 3; generation = 4; moment = 292 };
}

abbrev history_12 : List Transaction
history_12 =
    tx 0 (Register 1 Worker name ∷ [])
    ∷ tx 0 (Enqueue (row 1 (negsuc 2) 2 [] (Some (x true))) (Ready (Some 2)) ∷ Enqueue (row 3 (pos 5) 0 (errors 1) (Some (x false))) (Scheduled 1) ∷ [])
    ∷ tx 5 (Enqueue (row 4 (pos 0) 2 (errors 1) (Some (x false))) (Blocked 55) ∷ Enqueue (row 2 (negsuc 2) 2 [] (Some (x true))) (Blocked 55) ∷ [])
    ∷ tx 65 (Discard 2 ∷ [])
    ∷ tx 65 (Expire key_x ∷ [])
    ∷ tx 66 (Claim 1 1 ∷ Fail 1 name message None ∷ [])
    ∷ tx 126 (Dispatch 3 (Ready (Some 1)) ∷ Enqueue (row 2 (negsuc 2) 2 [] (Some (x false))) (Blocked 176) ∷ Claim 3 1 ∷ [])
    ∷ tx 131 (Done 3 ∷ [])
    ∷ tx 191 (Clear 3 ∷ Discard 1 ∷ [])
    ∷ tx 221 (Unblock 4 1 ∷ Discard 2 ∷ Run name 220 None ∷ [])
    ∷ tx 251 (Pause name ∷ [])
    ∷ tx 311 (Enqueue (row 3 (pos 0) 0 (errors 1) (Some (y false))) (Ready (Some 1)) ∷ Claim 3 1 ∷ [])
    ∷ tx 341 (Beat 1 ∷ [])
    ∷ tx 341 (Resume name ∷ Pause name ∷ [])
    ∷ tx 401 (Resume name ∷ Fail 3 name message None ∷ Discard 4 ∷ [])
    ∷ tx 431 (Pause name ∷ Resume name ∷ [])
    ∷ tx 432 (Pause name ∷ Deregister 1 ∷ Discard 3 ∷ [])
    ∷ []

abbrev world_12 : World
world_12 = record {
  jobs = map.empty;
  semaphores = map.from_entries (
      (key_x, semaphore 1 1 1 451)
      ∷ (key_y, semaphore 1 2 2 471)
      ∷ []);
  processes = map.empty;
  paused = map.from_entries ((name, tt) ∷ []);
  last_runs = map.from_entries ((name, 220) ∷ []);
  recurring = map.empty;
  numbers = record { job = 5; pid = 2; generation = 3; moment = 432 };
}

abbrev history_13 : List Transaction
history_13 =
    tx 0 (Register 1 Worker name ∷ [])
    ∷ tx 60 (Enqueue (row 1 (negsuc 2) 2 [] (Some (y false))) (Ready (Some 3)) ∷ [])
    ∷ tx 60 (Pause name ∷ [])
    ∷ tx 60 (Run name 59 None ∷ [])
    ∷ tx 90 (Enqueue (row 2 (pos 0) 0 [] (Some (x true))) (Ready (Some 2)) ∷ [])
    ∷ tx 95 (Run name 94 (Some 2) ∷ Resume name ∷ [])
    ∷ tx 155 (Expire key_x ∷ [])
    ∷ tx 215 (Pause name ∷ Claim 1 1 ∷ [])
    ∷ tx 215 (Enqueue (row 3 (pos 0) 2 (errors 1) None) (Ready None) ∷ [])
    ∷ tx 275 (Release 1 ∷ [])
    ∷ tx 305 (Claim 3 1 ∷ Fail 3 name message None ∷ Claim 2 1 ∷ [])
    ∷ tx 335 (Run name 334 (Some 2) ∷ Enqueue (row 4 (pos 5) 0 (errors 1) (Some (x false))) (Ready (Some 3)) ∷ [])
    ∷ tx 365 (Fail 2 name message (Some counters) ∷ Expire key_y ∷ Resume name ∷ [])
    ∷ tx 365 (Claim 4 1 ∷ [])
    ∷ tx 425 (Fail 4 name message (Some counters) ∷ [])
    ∷ tx 425 (Run name 424 (Some 1) ∷ [])
    ∷ tx 425 (Deregister 1 ∷ [])
    ∷ []

abbrev world_13 : World
world_13 = record {
  jobs = map.from_entries (
      (1, job (row 1 (negsuc 2) 2 [] (Some (y false))) (state.Ready (Some 3)))
      ∷ (2, job (row 2 (pos 0) 3 (errors 2) (Some (x true))) (state.Failed name message))
      ∷ (3, job (row 3 (pos 0) 2 (errors 1) None) (state.Failed name message))
      ∷ (4, job (row 4 (pos 5) 3 (errors 2) (Some (x false))) (state.Failed name message))
      ∷ []);
  semaphores = map.from_entries ((key_x, semaphore 3 1 1 475) ∷ []);
  processes = map.empty;
  paused = map.empty;
  last_runs = map.from_entries ((name, 424) ∷ []);
  recurring = map.from_entries (
      ((name, 94), 2)
      ∷ ((name, 334), 2)
      ∷ ((name, 424), 1)
      ∷ []);
  numbers = record { job = 5; pid = 2; generation = 4; moment = 425 };
}

abbrev history_14 : List Transaction
history_14 =
    tx 0 (Register 1 Worker name ∷ [])
    ∷ tx 60 (Enqueue (row 2 (negsuc 2) 2 [] (Some (x true))) (Ready (Some 2)) ∷ Enqueue (row 4 (negsuc 2) 0 [] (Some (y true))) (Ready (Some 2)) ∷ Discard 2 ∷ [])
    ∷ tx 60 (Run name 59 None ∷ [])
    ∷ tx 90 (Claim 4 1 ∷ Enqueue (row 1 (pos 0) 2 [] None) (Ready None) ∷ Pause name ∷ [])
    ∷ tx 95 (Done 4 ∷ Clear 4 ∷ [])
    ∷ tx 95 (Claim 1 1 ∷ Done 1 ∷ [])
    ∷ tx 100 (Register 2 Worker name ∷ [])
    ∷ tx 100 (Clear 1 ∷ [])
    ∷ tx 105 (Resume name ∷ [])
    ∷ tx 165 (Pause name ∷ [])
    ∷ tx 170 (Deregister 1 ∷ Register 1 Worker name ∷ Resume name ∷ [])
    ∷ tx 230 (Expire key_y ∷ Beat 1 ∷ [])
    ∷ tx 235 (Beat 2 ∷ Expire key_x ∷ Enqueue (row 3 (negsuc 2) 2 (errors 1) (Some (y false))) (Scheduled 244) ∷ [])
    ∷ tx 236 (Enqueue (row 2 (negsuc 2) 2 [] (Some (x true))) (Ready (Some 2)) ∷ [])
    ∷ tx 296 (Claim 2 2 ∷ Done 2 ∷ [])
    ∷ tx 297 (Enqueue (row 1 (pos 5) 2 [] (Some (x false))) (Scheduled 298) ∷ Clear 2 ∷ Discard 3 ∷ [])
    ∷ tx 327 (Enqueue (row 2 (negsuc 2) 0 (errors 1) (Some (x true))) (Ready (Some 2)) ∷ Run name 326 None ∷ [])
    ∷ []

abbrev world_14 : World
world_14 = record {
  jobs = map.from_entries (
      (1, job (row 1 (pos 5) 2 [] (Some (x false))) (state.Scheduled 298))
      ∷ (2, job (row 2 (negsuc 2) 0 (errors 1) (Some (x true))) (state.Ready (Some 2)))
      ∷ []);
  semaphores = map.from_entries ((key_x, semaphore 2 1 0 377) ∷ []);
  processes = map.from_entries (
      (1, record { kind = Worker; name = name; since = 170; beat = 230 })
      ∷ (2, record { kind = Worker; name = name; since = 100; beat = 235 })
      ∷ []);
  paused = map.empty;
  last_runs = map.from_entries ((name, 326) ∷ []);
  recurring = map.empty;
  numbers = record { job = 5; pid = 3; generation = 3; moment = 327 };
}

abbrev pub histories : List (List Transaction × World)
histories = (history_1, world_1) ∷ (history_2, world_2) ∷ (history_3, world_3) ∷ (history_4, world_4) ∷ (history_5, world_5) ∷ (history_6, world_6) ∷ (history_7, world_7) ∷ (history_8, world_8) ∷ (history_9, world_9) ∷ (history_10, world_10) ∷ (history_11, world_11) ∷ (history_12, world_12) ∷ (history_13, world_13) ∷ (history_14, world_14) ∷ []

-- ---- histories that are legal, each with a transaction that isn't legal after it

abbrev before_1 : List Transaction
before_1 =
    tx 0 (Register 1 Worker name ∷ [])
    ∷ []

abbrev refused_1 : Transaction
refused_1 = tx 5 (Unblock 1 2 ∷ [])

abbrev before_2 : List Transaction
before_2 =
    tx 0 (Register 1 Worker name ∷ [])
    ∷ []

abbrev refused_2 : Transaction
refused_2 = tx 30 (Claim 3 1 ∷ [])

abbrev before_3 : List Transaction
before_3 =
    tx 0 (Register 1 Worker name ∷ [])
    ∷ tx 5 (Run name 5 None ∷ [])
    ∷ tx 35 (Enqueue (row 3 (pos 0) 0 (errors 1) (Some (x true))) (Ready (Some 2)) ∷ [])
    ∷ tx 65 (Beat 1 ∷ Claim 3 1 ∷ Run name 65 (Some 3) ∷ [])
    ∷ []

abbrev refused_3 : Transaction
refused_3 = tx 65 (Fail 3 name message (Some counters) ∷ Unblock 2 1 ∷ [])

abbrev before_4 : List Transaction
before_4 =
    tx 0 (Register 1 Worker name ∷ [])
    ∷ tx 5 (Enqueue (row 3 (pos 0) 0 (errors 1) (Some (x true))) (Ready (Some 3)) ∷ [])
    ∷ tx 10 (Discard 3 ∷ [])
    ∷ tx 70 (Expire key_x ∷ [])
    ∷ tx 100 (Beat 1 ∷ Enqueue (row 3 (pos 0) 0 [] (Some (x true))) (Ready (Some 1)) ∷ [])
    ∷ tx 101 (Claim 3 1 ∷ Enqueue (row 1 (pos 0) 2 (errors 1) (Some (y false))) (Scheduled 110) ∷ Enqueue (row 2 (pos 5) 0 (errors 1) (Some (y false))) (Ready (Some 2)) ∷ [])
    ∷ []

abbrev refused_4 : Transaction
refused_4 = tx 161 (Release 1 ∷ [])

abbrev before_5 : List Transaction
before_5 =
    tx 0 (Register 1 Worker name ∷ [])
    ∷ tx 30 (Pause name ∷ [])
    ∷ []

abbrev refused_5 : Transaction
refused_5 = tx 30 (Enqueue (row 3 (pos 5) 2 [] (Some (y true))) Away ∷ [])

abbrev before_6 : List Transaction
before_6 =
    tx 0 (Register 1 Worker name ∷ [])
    ∷ tx 0 (Enqueue (row 1 (pos 0) 2 (errors 1) None) (Ready None) ∷ [])
    ∷ tx 0 (Claim 1 1 ∷ [])
    ∷ tx 0 (Done 1 ∷ Enqueue (row 2 (negsuc 2) 0 (errors 1) (Some (y true))) (Ready (Some 2)) ∷ [])
    ∷ tx 30 (Claim 2 1 ∷ [])
    ∷ tx 30 (Fail 2 name message None ∷ [])
    ∷ tx 31 (Pause name ∷ [])
    ∷ []

abbrev refused_6 : Transaction
refused_6 = tx 36 (Enqueue (row 1 (negsuc 2) 0 [] (Some (y false))) Away ∷ [])

abbrev before_7 : List Transaction
before_7 =
    tx 0 (Register 1 Worker name ∷ [])
    ∷ tx 1 (Enqueue (row 4 (pos 5) 2 [] (Some (x false))) (Scheduled 2) ∷ Discard 4 ∷ [])
    ∷ tx 31 (Run name 30 None ∷ Pause name ∷ [])
    ∷ tx 36 (Resume name ∷ [])
    ∷ tx 36 (Deregister 1 ∷ [])
    ∷ []

abbrev refused_7 : Transaction
refused_7 = tx 41 (Clear 3 ∷ [])

abbrev before_8 : List Transaction
before_8 =
    tx 0 (Register 1 Worker name ∷ [])
    ∷ []

abbrev refused_8 : Transaction
refused_8 = tx 1 (Discard 4 ∷ [])

abbrev before_9 : List Transaction
before_9 =
    tx 0 (Register 1 Worker name ∷ [])
    ∷ tx 0 (Run name 0 None ∷ [])
    ∷ tx 60 (Run name 59 None ∷ Pause name ∷ [])
    ∷ []

abbrev refused_9 : Transaction
refused_9 = tx 60 (Retry 2 (Scheduled 60) ∷ [])

abbrev before_10 : List Transaction
before_10 =
    tx 0 (Register 1 Worker name ∷ [])
    ∷ []

abbrev refused_10 : Transaction
refused_10 = tx 30 (Done 2 ∷ [])

abbrev before_11 : List Transaction
before_11 =
    tx 0 (Register 1 Worker name ∷ [])
    ∷ tx 5 (Run name 5 None ∷ Pause name ∷ Enqueue (row 1 (negsuc 2) 2 (errors 1) (Some (x true))) (Ready (Some 1)) ∷ [])
    ∷ []

abbrev refused_11 : Transaction
refused_11 = tx 65 (Resume name ∷ Enqueue (row 3 (negsuc 2) 2 (errors 1) (Some (x false))) (Scheduled 74) ∷ Beat 2 ∷ [])

abbrev before_12 : List Transaction
before_12 =
    tx 0 (Register 1 Worker name ∷ [])
    ∷ tx 1 (Register 2 Worker name ∷ Pause name ∷ Resume name ∷ [])
    ∷ []

abbrev refused_12 : Transaction
refused_12 = tx 1 (Run name 2 None ∷ [])

abbrev before_13 : List Transaction
before_13 =
    tx 0 (Register 1 Worker name ∷ [])
    ∷ tx 30 (Run name 29 None ∷ [])
    ∷ tx 31 (Enqueue (row 2 (pos 5) 0 (errors 1) (Some (y true))) (Ready (Some 2)) ∷ [])
    ∷ tx 32 (Run name 32 None ∷ [])
    ∷ tx 37 (Claim 2 1 ∷ Register 2 Worker name ∷ Fail 2 name message (Some counters) ∷ [])
    ∷ []

abbrev refused_13 : Transaction
refused_13 = tx 67 (Deregister 1 ∷ Enqueue (row 3 (pos 5) 2 [] (Some (x true))) (Scheduled 76) ∷ Fail 4 name message (Some counters) ∷ [])

abbrev before_14 : List Transaction
before_14 =
    tx 0 (Register 1 Worker name ∷ [])
    ∷ tx 5 (Enqueue (row 3 (negsuc 2) 0 (errors 1) (Some (x true))) (Scheduled 6) ∷ [])
    ∷ tx 35 (Dispatch 3 (Ready (Some 3)) ∷ [])
    ∷ tx 35 (Discard 3 ∷ [])
    ∷ []

abbrev refused_14 : Transaction
refused_14 = tx 40 (Expire key_y ∷ [])

abbrev before_15 : List Transaction
before_15 =
    tx 0 (Register 1 Worker name ∷ [])
    ∷ tx 30 (Enqueue (row 3 (negsuc 2) 0 (errors 1) (Some (x false))) (Ready (Some 1)) ∷ [])
    ∷ tx 60 (Deregister 1 ∷ Run name 59 None ∷ [])
    ∷ []

abbrev refused_15 : Transaction
refused_15 = tx 65 (Beat 1 ∷ [])

abbrev before_16 : List Transaction
before_16 =
    tx 0 (Register 1 Worker name ∷ [])
    ∷ tx 30 (Enqueue (row 2 (negsuc 2) 0 [] (Some (y false))) (Ready (Some 3)) ∷ Enqueue (row 1 (negsuc 2) 0 (errors 1) (Some (x true))) (Scheduled 31) ∷ Register 2 Worker name ∷ [])
    ∷ tx 35 (Claim 2 1 ∷ [])
    ∷ tx 65 (Run name 64 None ∷ [])
    ∷ tx 66 (Run name 65 None ∷ Fail 2 name message (Some counters) ∷ [])
    ∷ []

abbrev refused_16 : Transaction
refused_16 = tx 126 (Dispatch 2 (Blocked 176) ∷ [])

abbrev pub refusals : List (List Transaction × Transaction)
refusals = (before_1, refused_1) ∷ (before_2, refused_2) ∷ (before_3, refused_3) ∷ (before_4, refused_4) ∷ (before_5, refused_5) ∷ (before_6, refused_6) ∷ (before_7, refused_7) ∷ (before_8, refused_8) ∷ (before_9, refused_9) ∷ (before_10, refused_10) ∷ (before_11, refused_11) ∷ (before_12, refused_12) ∷ (before_13, refused_13) ∷ (before_14, refused_14) ∷ (before_15, refused_15) ∷ (before_16, refused_16) ∷ []
