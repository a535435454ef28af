-- The plan of an expire may be opened.
use Rattle.std.proofs.Common.{◌≡◌, ◌≤◌, ℕ, Bool, true, nat_le, List, [], ◌∷◌, length, map, None, Some, Ok, sym, ◌∙◌, refl, subst, arith}
use Rattle.std.specs.Prelude.{filter, Contains}
use Rattle.job_states.specs.declared.command.Command.TheVariants as command
use Rattle.job_states.specs.declared.transition.Transition.TheVariants.{Expire}
use Rattle.semaphores.specs.Semaphore.{Semaphore, is_expired}
use Rattle.queue_model.specs.Map as finite
use Rattle.queue_model.proofs.Maps.{texts_total}
use Rattle.queue_model.proofs.Steps.{same_Some}
use Rattle.row_locks.proofs.Membership.{Contains-head, Contains-tail, Contains-from_filter, Contains-from_map}
use Rattle.plan_model.specs.Drafts.{Draft, begin, push, each_free}
use Rattle.plan_model.specs.GoodBook.{MayOpen}
use Rattle.plan_model.specs.GoodScene.{IsGoodScene}
use Rattle.plan_model.specs.Plans.{Plan}
use Rattle.plan_model.specs.Scenes.{Scene}
use Rattle.plan_model.specs.UpkeepCommands.{upkeep_plan, refusals, does, expired_keys, expire_case}
use Rattle.plan_model.proofs.AllowedMoves as allowed
use Rattle.plan_model.proofs.AllowedSeen.{semaphore_there}
use Rattle.plan_model.proofs.Apart.{AreApart, keys_apart_where}
use Rattle.plan_model.proofs.DraftLemmas.{Brings, brings_none}
use Rattle.plan_model.proofs.EachFree.{each_kept}
use Rattle.plan_model.proofs.GoodDrafts.{stepped}
use Rattle.plan_model.proofs.MapLemmas.{entry_found, filter_passes}
use Rattle.plan_model.proofs.Opening.{IsGoodFor, base, from_base, moment_fits, sound_opens}
use Rattle.plan_model.proofs.PlanLemmas.{begins_empty}
use Rattle.plan_model.proofs.Spending.{Rises, Holds, noted_rises}

key_fits : (n : ℕ) → n ≤ 65_535 → nat_le n 65_535 ≡ true
key_fits n le = grind (arith, le)

module _ (s : Scene) (seat : ℕ) (good : IsGoodScene s) (vacant : finite.get s.book.open_plans seat ≡ None) where
  record IsExpired (d : Draft) (key : List ℕ) : Type 0 where
    semaphore : Semaphore
    stands : finite.get d.world.semaphores key ≡ Some semaphore
    over : is_expired semaphore s.moment ≡ true

  -- a draft in which the semaphores of these keys are expired
  record AreExpired (keys : List (List ℕ)) (d : Draft) : Type 0 where
    draft : IsGoodFor s d
    brings : Brings 0 0 d
    each : (key : List ℕ) → Contains keys key → IsExpired d key
    apart : AreApart keys

  left_out : (key : List ℕ) (keys : List (List ℕ)) (d : Draft) → AreExpired (key ∷ keys) d → AreExpired keys d
  left_out key keys d h = record { draft = h.draft; brings = h.brings; each = λ k later. h.each k (Contains-tail key keys k later); apart = h.apart.1 }

  gone : (key : List ℕ) (keys : List (List ℕ)) (d : Draft) → AreExpired (key ∷ keys) d → AreExpired keys (push s.moment (Expire key) d)
  gone key keys d h =
      let here : IsExpired d key = h.each key (Contains-head key keys) in
      record {
        draft = stepped s.book.world s.moment (Expire key) d (moment_fits s good) (key_fits (length key) (h.draft.good.semaphores key here.semaphore here.stands).key_length)
            (allowed.expire s.moment key d here.semaphore here.stands here.over) h.draft;
        brings = brings_none 0 0 s.moment (Expire key) d refl refl h.brings;
        each = λ k later.
            let was : IsExpired d k = h.each k (Contains-tail key keys k later) in
            record { semaphore = was.semaphore; stands = semaphore_there s.moment (Expire key) d k (λ same. h.apart.0 k later (sym (same_Some key k same))) ∙ was.stands; over = was.over };
        apart = h.apart.1;
      }

  pub expire : (plan : Plan) → upkeep_plan s command.Expire ≡ Ok plan → MayOpen s.book seat plan
  expire plan e = sound_opens s seat good vacant (refusals s command.Expire) (does s command.Expire) plan e
      (record { rises = kept.rises; holds = λ unspent. let left = kept.holds unspent in (left.draft, left.brings) }) refl
    where
      over : List ℕ × Semaphore → Bool
      over e = is_expired e.1 s.moment

      at_first : (key : List ℕ) → Contains (expired_keys s.book.world s.moment) key → IsExpired (begin s) key
      at_first key h =
          let entries : List (List ℕ × Semaphore) = s.book.world.semaphores.entries in
          let x = Contains-from_map (λ (e : List ℕ × Semaphore). e.0) (filter over entries) key h in
          record {
            semaphore = x.0.1;
            stands = subst (λ k. finite.get s.book.world.semaphores k ≡ Some x.0.1) x.2 (entry_found texts_total entries x.0 s.book.world.semaphores.sorted (Contains-from_filter over entries x.0 x.1));
            over = filter_passes over entries x.0 x.1;
          }

      kept : Holds s (AreExpired []) (each_free s 500 (map (expire_case s.moment) (expired_keys s.book.world s.moment))).0
      kept = each_kept s 500 (expire_case s.moment) AreExpired left_out
          (λ key d e is. subst (λ n. Rises d.given n.given) (same_Some (push s.moment (Expire key) d) e is) (noted_rises d.given s.moment (Expire key)))
          (λ key keys d e is was unspent. subst (AreExpired keys) (same_Some (push s.moment (Expire key) d) e is) (gone key keys d was))
          (expired_keys s.book.world s.moment) (begin s, 0)
          (from_base s (AreExpired (expired_keys s.book.world s.moment)) (record { draft = base s good; brings = begins_empty s; each = at_first; apart = keys_apart_where texts_total over s.book.world.semaphores.entries s.book.world.semaphores.sorted }))
