-- What a command keeps that moves many jobs, one transition each.
use Rattle.std.proofs.Common.{◌≡◌, ◌≢◌, ℕ, Bool, true, false, List, [], ◌∷◌, map, Option, Some, sym, ◌∙◌, subst}
use Rattle.std.specs.Prelude.{filter, Contains}
use Rattle.job_states.specs.declared.transition.Transition.{Transition}
use Rattle.queue_model.specs.Map as finite
use Rattle.queue_model.specs.Named.{job_named}
use Rattle.queue_model.specs.declared.Job.{Job}
use Rattle.queue_model.proofs.Steps.{same_Some}
use Rattle.row_locks.proofs.Membership.{Contains-head, Contains-tail, Contains-from_filter}
use Rattle.plan_model.specs.Drafts.{Draft, begin, push, each_free}
use Rattle.plan_model.specs.GoodScene.{IsGoodScene}
use Rattle.plan_model.specs.Plans.{is_enqueue, is_claim}
use Rattle.plan_model.specs.Scenes.{Scene}
use Rattle.plan_model.proofs.AllowedSeen.{job_there}
use Rattle.plan_model.proofs.Apart.{AreApart, filter_apart}
use Rattle.plan_model.proofs.DraftLemmas.{Brings, brings_none}
use Rattle.plan_model.proofs.EachFree.{each_kept}
use Rattle.plan_model.proofs.MapLemmas.{filter_passes}
use Rattle.plan_model.proofs.Opening.{IsGoodFor, IsSound, base, from_base}
use Rattle.plan_model.proofs.OrderLemmas.{own_place, jobs_apart, same_job}
use Rattle.plan_model.proofs.PlanLemmas.{begins_empty}
use Rattle.plan_model.proofs.Spending.{IsNotSpent, Rises, Holds, noted_rises}

-- ---- items of which each moves its own job

module _ {A : Type 0} (s : Scene) (good : IsGoodScene s) (job_of : A → Job) (test : A → Bool) where
  -- a draft in which the jobs of these items stand as they stood at first
  pub record Left (items : List A) (d : Draft) : Type 0 where
    pub draft : IsGoodFor s d
    pub brings : Brings 0 0 d
    pub there : (x : A) → Contains items x → finite.get d.world.jobs (job_of x).row.id ≡ Some (job_of x)
    pub passes : (x : A) → Contains items x → test x ≡ true
    pub apart : AreApart items
    pub one : (x y : A) → test x ≡ true → test y ≡ true → job_of x ≡ job_of y → x ≡ y

  left_out : (x : A) (xs : List A) (d : Draft) → Left (x ∷ xs) d → Left xs d
  left_out x xs d h = record {
    draft = h.draft;
    brings = h.brings;
    there = λ y later. h.there y (Contains-tail x xs y later);
    passes = λ y later. h.passes y (Contains-tail x xs y later);
    apart = h.apart.1;
    one = h.one;
  }

  -- the case is a transition of the item's job, neither a new job nor a claim
  pub record Moves (x : A) (d e : Draft) : Type 0 where
    pub transition : Transition
    pub pushed : push s.moment transition d ≡ e
    pub named : job_named transition ≡ Some (job_of x).row.id
    pub no_job : is_enqueue transition ≡ false
    pub no_claim : is_claim transition ≡ false

  moved : (x : A) (xs : List A) (d e : Draft) → Moves x d e → Left (x ∷ xs) d → IsGoodFor s e → Left xs e
  moved x xs d e m h draft = record {
    draft = draft;
    brings = subst (Brings 0 0) m.pushed (brings_none 0 0 s.moment m.transition d m.no_job m.no_claim h.brings);
    there = λ y later. subst (λ n. finite.get n.world.jobs (job_of y).row.id ≡ Some (job_of y)) m.pushed
        (job_there s.moment m.transition d (job_of y).row.id (other y later) ∙ h.there y (Contains-tail x xs y later));
    passes = λ y later. h.passes y (Contains-tail x xs y later);
    apart = h.apart.1;
    one = h.one;
  }
    where
      other : (y : A) → Contains xs y → job_named m.transition ≢ Some (job_of y).row.id
      other y later same = h.apart.0 y later (h.one y x (h.passes y (Contains-tail x xs y later)) (h.passes x (Contains-head x xs))
          (same_job (finite.get d.world.jobs) (job_of y) (job_of x) (h.there y (Contains-tail x xs y later)) (h.there x (Contains-head x xs)) (sym (same_Some (job_of x).row.id (job_of y).row.id (sym m.named ∙ same)))))

  -- where a case is a transition that keeps the draft good
  pub many : (most : ℕ) (case : A → Draft → Option Draft) (items : List A) → ((x : A) (d e : Draft) → case x d ≡ Some e → Moves x d e)
      → ((x : A) (d e : Draft) → case x d ≡ Some e → IsGoodFor s d → finite.get d.world.jobs (job_of x).row.id ≡ Some (job_of x) → test x ≡ true → IsNotSpent d.given e.given → IsGoodFor s e)
      → Left items (begin s) → Holds s (IsSound s 0) (each_free s most (map case items)).0
  many most case items moves keeps h = record { rises = all.rises; holds = λ unspent. let left = all.holds unspent in (left.draft, left.brings) }
    where
      all : Holds s (Left []) (each_free s most (map case items)).0
      all = each_kept s most case Left left_out
          (λ x d e is. let m = moves x d e is in subst (λ n. Rises d.given n.given) m.pushed (noted_rises d.given s.moment m.transition))
          (λ x xs d e is was unspent. moved x xs d e (moves x d e is) was (keeps x d e is was.draft (was.there x (Contains-head x xs)) (was.passes x (Contains-head x xs)) unspent))
          items (begin s, 0) (from_base s (Left items) h)

-- ---- jobs of the tables

-- jobs that stand there, each once
pub from_tables : (s : Scene) (good : IsGoodScene s) (test : Job → Bool) (items : List Job) → ((j : Job) → Contains items j → Contains (finite.values s.book.world.jobs) j) → ((j : Job) → Contains items j → test j ≡ true) → AreApart items → Left s good (λ j. j) test items (begin s)
from_tables s good test items from passes apart = record {
  draft = base s good;
  brings = begins_empty s;
  there = λ j h. own_place s.book.world j good.book.world (from j h);
  passes = passes;
  apart = apart;
  one = λ x y p q e. e;
}

-- those that pass a test
pub filtered : (s : Scene) (good : IsGoodScene s) (p : Job → Bool) → Left s good (λ j. j) p (filter p (finite.values s.book.world.jobs)) (begin s)
filtered s good p =
    let all : List Job = finite.values s.book.world.jobs in
    from_tables s good p (filter p all) (Contains-from_filter p all) (filter_passes p all) (filter_apart p all (jobs_apart s.book.world good.book.world))
