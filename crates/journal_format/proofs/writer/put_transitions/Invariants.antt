use Rattle.std.proofs.Common.{◌≡◌, true, ◌++◌, take}
use Rattle.std.specs.List.{flat_map, list_all}
use Rattle.job_states.specs.Ranges.{has_texts}
use Rattle.journal_format.specs.Spelling.{transition}
use Rattle.journal_format.proofs.writer.put_transitions.Given as goal

abbrev pub invariant-loop-step : goal.invariant-loop-step
invariant-loop-step l = (l.out.items ≡ l.fn.out.items ++ flat_map transition (take l.step-index l.steps)) × (list_all has_texts (take l.step-index l.steps) ≡ true)
