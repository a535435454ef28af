-- A log that grows by an entry.
use Rattle.std.proofs.Common.{◌≡◌, ℕ, zero, suc, ◌≤◌, List, [], ◌∷◌, ◌++◌, refl, ◌∙◌, ap, arith}
use Rattle.sq_outside.specs.File.{File}
use Rattle.sq_outside.specs.Disk.{Two, nth, History, Changes}
use Rattle.sq_outside.specs.MemoryDisk.{with_nth, entered, before_each, after_all}
use Rattle.sq_outside.specs.declared.memory.change.Entry.{Entry}

pub after_all-push : (files : Two File) (log : List Entry) (entry : Entry) → after_all files (log ++ entry ∷ []) ≡ entered entry (after_all files log)
after_all-push files [] entry = refl
after_all-push files (e ∷ log) entry = after_all-push (entered e files) log entry

pub before_each-push : (files : Two File) (log : List Entry) (entry : Entry) → before_each files (log ++ entry ∷ []) ≡ before_each files log ++ after_all files log ∷ []
before_each-push files [] entry = refl
before_each-push files (e ∷ log) entry = ap (λ (l : List (Two File)). files ∷ l) (before_each-push (entered e files) log entry)

-- the other file stays
pub changes : (file : ℕ) (step : File → File → Type 0) (change : File → File) (files : Two File) → file ≤ 1 → step (nth file files) (change (nth file files)) → Changes file step files (with_nth file change files)
changes zero step change files small here = record { this = here; other = refl }
changes (suc zero) step change files small here = record { this = here; other = refl }
changes (suc (suc n)) step change files small here = absurd (omega arith)

pub same_history : (earlier earlier' : List (Two File)) (now now' : Two File) → earlier ≡ earlier' → now ≡ now' → ◌≡◌ {A = History} (record { earlier = earlier; now = now }) (record { earlier = earlier'; now = now' })
same_history earlier earlier' now now' e n =
    ap (λ (x : List (Two File)). let h : History = record { earlier = x; now = now } in h) e ∙ ap (λ (x : Two File). let h : History = record { earlier = earlier'; now = x } in h) n
