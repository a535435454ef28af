use Rattle.std.proofs.Common.{◌≡◌, ℕ, ◌<◌, ◌≤◌, ◌||◌}
use Rattle.std.specs.Int.{bit_at}
use Rattle.cron_lines.specs.Field.{holds}
use Rattle.cron_lines.proofs.ValuesLemmas.{is_in}
use Rattle.cron_lines.proofs.values.Values.with.Given as goal

abbrev pub invariant-loop-value : goal.invariant-loop-value
invariant-loop-value l = record {
  done : (k : ℕ) → k < l.value → is_in l.bits k ≡ (is_in l.initial.bits k || holds l.item k);
  kept : (k : ℕ) → l.value ≤ k → bit_at l.bits k ≡ bit_at l.initial.bits k;
}
