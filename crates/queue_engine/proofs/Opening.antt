-- What an opening comes to.
use Rattle.std.proofs.Common.{◌≡◌, ℕ, List, Option, None, Some, ap, sym, ◌∙◌, refl, subst}
use Rattle.std.specs.BTreeMap.{BTreeMap}
use Rattle.std.proofs.lemmas.Option.{IfSome_then}
use Rattle.journal_keeper.specs.Stands.{Keeper}
use Rattle.journal_replay.specs.Opening as opening
use Rattle.journal_replay.specs.Records.{StandFor}
use Rattle.plan_model.specs.Books.{Book, opened_over}
use Rattle.plan_model.specs.Plans.{Plan}
use Rattle.queue_config.specs.declared.config.Config.{Config}
use Rattle.queue_engine.specs.Calls.{Opens}
use Rattle.queue_engine.specs.Recorded.{AreRecorded}
use Rattle.queue_engine.specs.Running.{store}
use Rattle.queue_engine.proofs.Standing.{StandsKept, nothing_follows, stands_on}
use Rattle.queue_model.specs.Map as map
use Rattle.queue_model.specs.World.{World}
use Rattle.sq_outside.specs.Disk.{History}

module _ (b : Book) (w : World) (is : b ≡ opened_over w) where
  pub world : w ≡ b.world
  world = ap (λ (n : Book). n.world) (sym is)

  none_there : (plan : Plan) → ◌≡◌ {A = Option Plan} None (Some plan) → ⊥
  none_there plan e = cc

  -- nothing is open
  pub none_recorded : (records : BTreeMap ℕ (List ℕ)) → AreRecorded b records
  none_recorded records = λ seat plan there. absurd (none_there plan (sym (ap (λ (n : Book). map.get n.open_plans seat) is) ∙ there))

  pub opened : StandsKept → (settings : Config) (journal : Keeper) (before after : Option History) → opening.Opens journal w before after → Opens settings before (store settings b journal) after
  opened law settings journal before after found =
      let stand_for = subst (StandFor found.payloads) world found.stand_for in
      record {
        settings = refl;
        book = is ∙ ap opened_over world;
        recovered = IfSome_then before found.recovered (λ h recovers. record { payloads = found.payloads; recovers = recovers; stand_for = stand_for });
        stands = stands_on law (store settings b journal) None after found.payloads stand_for (nothing_follows b.world) found.stands found.read;
      }
