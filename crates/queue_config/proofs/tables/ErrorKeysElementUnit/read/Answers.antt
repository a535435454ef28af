use Rattle.std.proofs.Common.{◌≡◌, ◌≢◌, true, sym, ap, ◌∙◌, true≢false}
use Rattle.std.proofs.lemmas.Cmp.{nat_list_eq_equiv}
use Rattle.std.proofs.lemmas.List.Elements.{All-push}
use Rattle.std.specs.Str.{bytes_eq}
use Rattle.queue_config.specs.Errors.{standard_error}
use Rattle.queue_config.specs.Ranges.{IsErrorKeys}
use Rattle.queue_config.proofs.tables.ErrorKeysElementUnit.read.Goals as goal

pub returns-clause-holds : goal.returns-clause-holds
returns-clause-holds c =
    let own : c.in_ok-name.name ≢ standard_error = λ same.
    let equal : bytes_eq c.in_ok-name.name standard_error ≡ true = rw same (nat_list_eq_equiv.refl standard_error) in
    true≢false (sym equal ∙ ap (λ n. bytes_eq n standard_error) (sym c.as_str.ensures.same) ∙ sym c.eq.ensures ∙ c.if-eq.false) in
    All-push IsErrorKeys _ _ c.requires (record { name = c.in_ok-name.ensures.name; parent = c.in_ok-parent.ensures.name; own = own })
