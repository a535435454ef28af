use Rattle.std.proofs.Common.{ap, sym, nat_eq, ◌∙◌}
use Rattle.std.proofs.lemmas.Nat.Bits.{shr_and_one}
use Rattle.cron_lines.specs.Values.{has}
use Rattle.cron_lines.proofs.ValuesLemmas.{is_in, has-values_where}
use Rattle.cron_lines.proofs.values.Values.has.Goals as goal

pub returns : goal.returns
returns c =
    ap (λ bit. nat_eq bit 1) (shr_and_one c.self.inside.bits c.args.value)
    ∙ sym (has-values_where (is_in c.self.inside.bits) c.args.value c.requires)
    ∙ ap (λ values. has values c.args.value) c.self.view_is
