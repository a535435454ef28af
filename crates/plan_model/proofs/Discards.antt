-- The plan of a discard of many may be opened.
use Rattle.std.proofs.Common.{◌≡◌, ◌≢◌, ℕ, Bool, true, ◌&&◌, List, [], ◌∷◌, map, Option, None, Some, Ok, ap, sym, ◌∙◌, refl, subst, arith}
use Rattle.std.proofs.lemmas.Bool.{true≢false, and_parts}
use Rattle.std.specs.Prelude.{filter, Contains}
use Rattle.job_states.specs.States.{stage_of}
use Rattle.job_states.specs.declared.command.Command.TheVariants as command
use Rattle.job_states.specs.declared.job.Stage.{Stage}
use Rattle.job_states.specs.declared.transition.Transition.TheVariants.{Discard}
use Rattle.queue_model.specs.Map as finite
use Rattle.queue_model.specs.declared.Job.{Job}
use Rattle.queue_model.proofs.Steps.{same_Some}
use Rattle.row_locks.proofs.Membership.{Contains-head, Contains-tail, Contains-from_filter}
use Rattle.plan_model.specs.Drafts.{Draft, begin, end, each_free}
use Rattle.plan_model.specs.GoodBook.{MayOpen}
use Rattle.plan_model.specs.GoodDraft.{IsAllowed, may_go}
use Rattle.plan_model.specs.GoodScene.{IsGoodScene}
use Rattle.plan_model.specs.JobCommands.{job_plan, refusals, does, matching, discard_case, is_at, is_wanted, may_discard}
use Rattle.plan_model.specs.Plans.{Plan}
use Rattle.plan_model.specs.Scenes.{Scene}
use Rattle.plan_model.proofs.AllowedMoves as allowed
use Rattle.plan_model.proofs.AllowedOthers.{others_may_go}
use Rattle.plan_model.proofs.Apart.{AreApart, filter_apart}
use Rattle.plan_model.proofs.DraftLemmas.{Brings}
use Rattle.plan_model.proofs.EachFree.{each_kept}
use Rattle.plan_model.proofs.Endings.{ended, end_brings, end_rises}
use Rattle.plan_model.proofs.MapLemmas.{filter_passes}
use Rattle.plan_model.proofs.Opening.{IsGoodFor, base, from_base, sound_opens}
use Rattle.plan_model.proofs.OrderLemmas.{own_place, jobs_apart, same_job}
use Rattle.plan_model.proofs.PlanLemmas.{begins_empty}
use Rattle.plan_model.proofs.Spending.{IsNotSpent, Rises, Holds}

still_may : (status st : Stage) → may_discard (Some status) ≡ true → is_at status (Some st) ≡ true → may_discard (Some st) ≡ true
still_may status st may at = grind (arith, may, at)

going : (o : Option Job) → may_go o ≡ true → (j : Job) × (o ≡ Some j) × (may_discard (Some (stage_of j.state)) ≡ true)
going None e = absurd (true≢false (sym e))
going (Some j) e = (j, refl, e)

module _ (s : Scene) (seat : ℕ) (good : IsGoodScene s) (vacant : finite.get s.book.open_plans seat ≡ None) where
  -- a draft in which each of these jobs may be discarded
  record MayGo (jobs : List Job) (d : Draft) : Type 0 where
    draft : IsGoodFor s d
    brings : Brings 0 0 d
    may : (j : Job) → Contains jobs j → may_go (finite.get d.world.jobs j.row.id) ≡ true
    here : (j : Job) → Contains jobs j → finite.get s.book.world.jobs j.row.id ≡ Some j
    apart : AreApart jobs

  left_out : (j : Job) (js : List Job) (d : Draft) → MayGo (j ∷ js) d → MayGo js d
  left_out j js d h = record {
    draft = h.draft;
    brings = h.brings;
    may = λ x later. h.may x (Contains-tail j js x later);
    here = λ x later. h.here x (Contains-tail j js x later);
    apart = h.apart.1;
  }

  gone : (j : Job) (js : List Job) (d : Draft) → MayGo (j ∷ js) d → IsNotSpent d.given (end s.moment j.row.id (Discard j.row.id) d).0.given → MayGo js (end s.moment j.row.id (Discard j.row.id) d).0
  gone j js d h unspent =
      let o = going (finite.get d.world.jobs j.row.id) (h.may j (Contains-head j js)) in
      let allows : IsAllowed s.moment d (Discard j.row.id) = allowed.discard s.moment j.row.id d o.0 o.1 o.2 in
      record {
        draft = ended s.book.world s.moment j.row.id (Discard j.row.id) d good.moment refl refl (h.draft.good.jobs j.row.id o.0 o.1).number.0 allows h.draft unspent;
        brings = end_brings 0 0 s.moment j.row.id (Discard j.row.id) d refl h.brings;
        may = λ x later. others_may_go s.moment (Discard j.row.id) d j.row.id h.draft.good good.moment refl refl allows x.row.id (other x later) (h.may x (Contains-tail j js x later));
        here = λ x later. h.here x (Contains-tail j js x later);
        apart = h.apart.1;
      }
    where
      other : (x : Job) → Contains js x → j.row.id ≢ x.row.id
      other x later same = h.apart.0 x later (same_job (finite.get s.book.world.jobs) x j (h.here x (Contains-tail j js x later)) (h.here j (Contains-head j js)) (sym same))

  pub discard_many : (status : Stage) (queue class : Option (List ℕ)) (plan : Plan) → may_discard (Some status) ≡ true → job_plan s (command.DiscardMany status queue class) ≡ Ok plan → MayOpen s.book seat plan
  discard_many status queue class plan may e = sound_opens s seat good vacant (refusals s (command.DiscardMany status queue class)) (does s (command.DiscardMany status queue class)) plan e
      (record { rises = kept.rises; holds = λ unspent. let left = kept.holds unspent in (left.draft, left.brings) }) refl
    where
      wanted : Job → Bool
      wanted j = is_at status (Some (stage_of j.state)) && is_wanted queue j.row.queue && is_wanted class j.row.class

      all : List Job
      all = finite.values s.book.world.jobs

      found : (j : Job) → Contains (filter wanted all) j → finite.get s.book.world.jobs j.row.id ≡ Some j
      found j h = own_place s.book.world j good.book.world (Contains-from_filter wanted all j h)

      at_first : (j : Job) → Contains (filter wanted all) j → may_go (finite.get s.book.world.jobs j.row.id) ≡ true
      at_first j h =
          let front = (and_parts (is_at status (Some (stage_of j.state)) && is_wanted queue j.row.queue) (is_wanted class j.row.class) (filter_passes wanted all j h)).0 in
          ap may_go (found j h) ∙ still_may status (stage_of j.state) may (and_parts (is_at status (Some (stage_of j.state))) (is_wanted queue j.row.queue) front).0

      kept : Holds s (MayGo []) (each_free s 500 (map (discard_case s.moment) (matching s.book.world (is_at status) queue class))).0
      kept = each_kept s 500 (discard_case s.moment) MayGo left_out
          (λ j d e is. subst (λ n. Rises d.given n.given) (same_Some (end s.moment j.row.id (Discard j.row.id) d).0 e is) (end_rises s.moment j.row.id (Discard j.row.id) d))
          (λ j js d e is was unspent.
          let same = same_Some (end s.moment j.row.id (Discard j.row.id) d).0 e is in
          subst (MayGo js) same (gone j js d was (subst (λ n. IsNotSpent d.given n.given) (sym same) unspent)))
          (filter wanted all) (begin s, 0)
          (from_base s (MayGo (filter wanted all)) (record { draft = base s good; brings = begins_empty s; may = at_first; here = found; apart = filter_apart wanted all (jobs_apart s.book.world good.book.world) }))
