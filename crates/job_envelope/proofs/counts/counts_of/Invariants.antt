use Rattle.std.proofs.Common.{◌≡◌, ◌++◌, map, string_bytes}
use Rattle.std.specs.List.{AllPass}
use Rattle.std.specs.Map.{keys_of}
use Rattle.serde_json.specs.View.{members_view}
use Rattle.job_envelope.specs.Kind.{counts_of}
use Rattle.job_states.specs.Ranges.{is_counted, texts_of_counts}
use Rattle.job_envelope.proofs.CountLemmas.{with_prefix}
use Rattle.job_envelope.proofs.counts.counts_of.Given as goal

abbrev pub invariant-loop-list : goal.invariant-loop-list
invariant-loop-list l =
    (goal.iterator-loop-list).can_next l.list-iterator
    × (goal.iterator-loop-list).is_finite l.list-iterator
    × (with_prefix l.counts.items (counts_of l.member (members_view l.list-iterator)) ≡ counts_of l.member (members_view l.lists.entries))
    × AllPass is_counted l.counts.items
    × (texts_of_counts l.counts.items ++ map string_bytes (keys_of l.list-iterator) ≡ map string_bytes (keys_of l.lists.entries))
