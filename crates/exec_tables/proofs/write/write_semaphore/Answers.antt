use Rattle.std.proofs.Common.{ap, sym, ◌∙◌}
use Rattle.std.specs.Option.{option_copied}
use Rattle.queue_model.specs.Map.{from_entries, insert}
use Rattle.queue_model.specs.Sights.{set}
use Rattle.exec_tables.proofs.write.write_semaphore.Goals as goal

pub returns-else-is_some-clause-rows : goal.returns-else-is_some-clause-rows
returns-else-is_some-clause-rows c =
    let rows = from_entries c.args.semaphores.now.entries in
    c.put.ensures.rows ∙ ap (λ k. insert rows k c.in-Some-semaphore.sem) c.write.ensures.same ∙ (λ i. set rows (option_copied (sym c.in-Some.is i)) (sym c.in-Some-semaphore.is i))
