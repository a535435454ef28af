use Rattle.std.proofs.Common.{◌≡◌, eqb, ap, sym, ◌∙◌, subst, Some, length, ◌<◌}
use Rattle.std.specs.Cmp.Lexicographic.{pointwise}
use Rattle.std.specs.List.{IsDistinct}
use Rattle.std.specs.Map.{keys_of}
use Rattle.indexmap.specs.IndexMap.{insert_entry}
use Rattle.queue_model.specs.Map as map
use Rattle.queue_model.specs.Sights.{with_run}
use Rattle.exec_tables.specs.Runs.{AreRuns, named, same_run}
use Rattle.exec_tables.proofs.RunLemmas.{are_runs, are_runs_still, noted_last, noted_none, noted_run, place_of}
use Rattle.exec_tables.proofs.runs.Runs.note.Goals as goal

pub returns-in_default-id-clause-last : goal.returns-in_default-id-clause-last
returns-in_default-id-clause-last c = ap map.from_entries c.in-Ok.ensures.entries ∙ noted_last c.self.inside.last.entries c.args.task c.args.time ∙ ap (λ r. map.insert r.last c.args.task c.args.time) c.self.view_is

pub returns-in_default-id-clause-recurring : goal.returns-in_default-id-clause-recurring
returns-in_default-id-clause-recurring c =
    let last = c.self.inside.last.entries in
    let es = c.self.inside.recurring.entries in
    ap (λ l. map.from_entries (named l es)) c.in-Ok.ensures.entries ∙ ap map.from_entries (noted_none last es c.args.task c.args.time c.self.invariant.places) ∙ ap (λ r. r.recurring) c.self.view_is
    ∙ sym (ap (with_run c.args.self.now.recurring (Some c.args.task) (Some c.args.time)) c.in_default-id.is)

pub invariant_of-self : goal.invariant_of-self
invariant_of-self c =
    subst (λ l. AreRuns l c.self.inside.recurring.entries (map.from_entries c.self.inside.jobs.entries)) (sym c.in-Ok.ensures.entries)
    (are_runs_still c.self.inside.last.entries c.self.inside.recurring.entries (map.from_entries c.self.inside.jobs.entries) c.args.task c.args.time c.self.invariant (subst (λ l. IsDistinct (pointwise eqb) (keys_of l)) c.in-Ok.ensures.entries c.in-Ok.ensures.unique))

pub returns-clause-last : goal.returns-clause-last
returns-clause-last c = ap map.from_entries c.in-Ok.ensures.entries ∙ noted_last c.self.inside.last.entries c.args.task c.args.time ∙ ap (λ r. map.insert r.last c.args.task c.args.time) c.self.view_is

pub returns-clause-recurring : goal.returns-clause-recurring
returns-clause-recurring c =
    let last = c.self.inside.last.entries in
    let es = c.self.inside.recurring.entries in
    let later = insert_entry (pointwise eqb) last c.args.task c.args.time in
    let distinct = subst (λ l. IsDistinct (pointwise eqb) (keys_of l)) c.in-Ok.ensures.entries c.in-Ok.ensures.unique in
    let within = subst (λ p. p < length later) c.in-Ok.ensures.index (subst (λ l. c.in-Ok.place < length l) c.in-Ok.ensures.entries c.in-Ok.ensures.within) in
    ap (λ l. map.from_entries (named l c.insert.new.self.entries)) c.in-Ok.ensures.entries
    ∙ ap (λ l. map.from_entries (named later l)) c.in-Ok-insert.ensures.entries
    ∙ ap (λ p. map.from_entries (named later (insert_entry same_run es (p, c.args.time) c.in-Some.id))) c.in-Ok.ensures.index
    ∙ noted_run last es (map.from_entries c.self.inside.jobs.entries) c.args.task c.args.time c.in-Some.id c.self.invariant distinct within
    ∙ ap (λ r. map.insert r.recurring (c.args.task, c.args.time) c.in-Some.id) c.self.view_is
    ∙ sym (ap (with_run c.args.self.now.recurring (Some c.args.task) (Some c.args.time)) c.in-Some.is)

pub invariant_of-self-2 : goal.invariant_of-self-2
invariant_of-self-2 c =
    let last = c.self.inside.last.entries in
    let es = c.self.inside.recurring.entries in
    let jobs = map.from_entries c.self.inside.jobs.entries in
    let later = insert_entry (pointwise eqb) last c.args.task c.args.time in
    let distinct = subst (λ l. IsDistinct (pointwise eqb) (keys_of l)) c.in-Ok.ensures.entries c.in-Ok.ensures.unique in
    let within = subst (λ p. p < length later) c.in-Ok.ensures.index (subst (λ l. c.in-Ok.place < length l) c.in-Ok.ensures.entries c.in-Ok.ensures.within) in
    let written : c.insert.new.self.entries ≡ insert_entry same_run es (place_of last c.args.task, c.args.time) c.in-Some.id =
    c.in-Ok-insert.ensures.entries ∙ ap (λ p. insert_entry same_run es (p, c.args.time) c.in-Some.id) c.in-Ok.ensures.index in
    subst (λ l. AreRuns l c.insert.new.self.entries (map.from_entries c.put.new.rows.entries)) (sym c.in-Ok.ensures.entries)
    (subst (λ l. AreRuns later l (map.from_entries c.put.new.rows.entries)) (sym written)
    (subst (λ j. AreRuns later (insert_entry same_run es (place_of last c.args.task, c.args.time) c.in-Some.id) j) (sym c.put.ensures.rows)
    (are_runs last es jobs c.args.task c.args.time c.in-Some.id c.self.invariant distinct within (subst (λ l. IsDistinct same_run (keys_of l)) written c.in-Ok-insert.ensures.unique))))
