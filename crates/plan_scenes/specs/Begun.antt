-- A draft that was begun in a scene.
use Rattle.std.specs.Prelude.{◌≡◌}
use Rattle.job_states.specs.declared.answer.Answer.{Answer}
use Rattle.plan_drafts.specs.Drafting.{Drafting}
use Rattle.plan_model.specs.Drafts.{begin}
use Rattle.plan_model.specs.Planned.{Drafted}
use Rattle.plan_model.specs.Scenes.{Scene}

abbrev pub begun : Scene → Drafting
begun s = record { begun = begin s; moment = s.moment; draft = begin s }

-- the draft was begun in the scene, and has come to what was to be made; this is its answer
pub record ComesTo (s : Scene) (made : Drafted) (d : Drafting) (answer : Answer) : Type 0 where
  pub begun : d.begun ≡ begin s
  pub moment : d.moment ≡ s.moment
  pub draft : d.draft ≡ made.draft
  pub answered : answer ≡ made.answer
