-- Causes that were looked for, and not met.
use Rattle.std.proofs.Common.{◌≡◌, ℕ, true, is_some, is_none, Option, None, Some, Ok, ap, refl}
use Rattle.std.proofs.lemmas.Bool.{true≢false}
use Rattle.job_states.specs.declared.answer.Refused.{Refused}
use Rattle.job_states.specs.declared.answer.Refused.TheVariants.{NoSuchProcess}
use Rattle.queue_model.specs.Map.{get}
use Rattle.queue_model.specs.declared.Process.{Process}
use Rattle.plan_model.specs.Refusals.{no_such_process, refuse}
use Rattle.plan_model.specs.Scenes.{Scene}
use Rattle.plan_scenes.specs.Causes.{unless}

pub not_met : (o : Option Refused) (u : Unit {0}) → unless o ≡ Ok u → o ≡ None
not_met None u e = refl
not_met (Some refused) u e = cc

pub registered_there : (s : Scene) (pid : ℕ) → no_such_process s pid ≡ None → is_some (get s.book.world.processes pid) ≡ true
registered_there s pid e = by (get s.book.world.processes pid) e
  where
    by : (o : Option Process) → refuse (is_none o) (NoSuchProcess pid s.book.world.numbers.pid) ≡ None → is_some o ≡ true
    by (Some p) e = refl
    by None e = absurd (true≢false (ap is_some e))
