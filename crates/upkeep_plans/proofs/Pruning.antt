-- What comes of the silent processes, one after another.
use Rattle.std.proofs.Common.{◌≡◌, ◌≤◌, ℕ, Bool, true, false, cond, nat_le, List, [], ◌∷◌, length, map, filter, Option, None, Some, codes, decimal, arith, ap, sym, ◌∙◌}
use Rattle.std.proofs.lemmas.Fmt.{length-decimal-le_wide}
use Rattle.std.proofs.lemmas.List.{length-append}
use Rattle.job_states.specs.Moment.{IsMoment}
use Rattle.job_states.specs.Ranges.{is_message}
use Rattle.job_states.specs.declared.answer.Answer.TheVariants as answer
use Rattle.queue_model.specs.declared.Process.{Process}
use Rattle.plan_drafts.specs.Drafting.{Drafting, with_draft}
use Rattle.plan_model.specs.Orders.{first_of}
use Rattle.plan_model.specs.Planned.{Drafted}
use Rattle.plan_model.specs.Scenes.{Scene, are_free}
use Rattle.plan_model.specs.UpkeepCommands.{claimed_by, is_silent, or_nothing, prune, prune_first, pruned_message}
use Rattle.plan_scenes.specs.Begun.{ComesTo, begun}

pub message_fits : (p : Process) → IsMoment p.beat → is_message (pruned_message p) ≡ true
message_fits p moment =
    let total = length-append (codes "pruned: last beat ") (decimal p.beat) in
    let digits = length-decimal-le_wide 18 p.beat (omega arith) (omega (arith, moment)) (omega (arith, moment)) in
    short (length (pruned_message p)) (omega (arith, total, digits))
  where
    short : (n : ℕ) → n ≤ 1024 → nat_le n 1024 ≡ true
    short n le = grind (arith, le)

module _ (s : Scene) where
  abbrev one : ℕ × Process → Drafted
  one e = prune s e.0 e.1

  abbrev is_free : Drafted → Bool
  is_free made = are_free s.book made.draft.rows

  -- the first of these that may be pruned
  abbrev pub first_pruned : List (ℕ × Process) → Option Drafted
  first_pruned silent = first_of (filter is_free (map one silent))

  abbrev all : List (ℕ × Process)
  all = filter (λ e. is_silent s e.1) s.book.world.processes.entries

  module _ (silent : List (ℕ × Process)) (same : first_pruned silent ≡ first_pruned all) where
    pub none_pruned : (d : Drafting) → d ≡ begun s → silent ≡ [] → ComesTo s (prune_first s) d (answer.Pruned 0 None)
    none_pruned d begins e =
        let made : or_nothing s None ≡ prune_first s = ap (or_nothing s) (ap first_pruned (sym e) ∙ same) in
        record {
          begun = ap (λ (x : Drafting). x.begun) begins;
          moment = ap (λ (x : Drafting). x.moment) begins;
          draft = ap (λ (x : Drafting). x.draft) begins ∙ ap (λ (x : Drafted). x.draft) made;
          answered = ap (λ (x : Drafted). x.answer) made;
        }

    module _ (pid : ℕ) (p : Process) (rest : List (ℕ × Process)) (are : silent ≡ (pid, p) ∷ rest) (d : Drafting) (failed : ℕ) (drafted : d ≡ with_draft (begun s) (prune s pid p).draft) where
      rows : are_free s.book d.draft.rows ≡ is_free (one (pid, p))
      rows = ap (λ (x : Drafting). are_free s.book x.draft.rows) drafted

      pub pruned : true ≡ are_free s.book d.draft.rows → failed ≡ length (claimed_by s.book.world pid) → ComesTo s (prune_first s) d (answer.Pruned failed (Some pid))
      pruned free counts =
          let here : first_pruned silent ≡ Some (prune s pid p) = ap first_pruned are ∙ ap (λ b. first_of (cond b (one (pid, p) ∷ filter is_free (map one rest)) (filter is_free (map one rest)))) (sym (free ∙ rows)) in
          let made : prune s pid p ≡ prune_first s = ap (or_nothing s) (sym here ∙ same) in
          record {
            begun = ap (λ (x : Drafting). x.begun) drafted;
            moment = ap (λ (x : Drafting). x.moment) drafted;
            draft = ap (λ (x : Drafting). x.draft) drafted ∙ ap (λ (x : Drafted). x.draft) made;
            answered = ap (λ n. answer.Pruned n (Some pid)) counts ∙ ap (λ (x : Drafted). x.answer) made;
          }

      pub passed : false ≡ are_free s.book d.draft.rows → first_pruned rest ≡ first_pruned all
      passed locked = ap (λ b. first_of (cond b (one (pid, p) ∷ filter is_free (map one rest)) (filter is_free (map one rest)))) (locked ∙ rows) ∙ sym (ap first_pruned are) ∙ same
