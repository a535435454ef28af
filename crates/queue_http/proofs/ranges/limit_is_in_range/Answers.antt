use Rattle.std.proofs.Common.{◌≡◌, ◌∙◌, ap, sym, Some}
use Rattle.queue_config.proofs.ErrorLemmas.{All-find}
use Rattle.std.specs.Option.{option_copied}
use Rattle.std.specs.Str.{bytes_eq}
use Rattle.queue_config.specs.Limits.{find_class}
use Rattle.queue_config.specs.Ranges.{IsClass}
use Rattle.queue_config.specs.declared.config.Class.{Class}
use Rattle.queue_http.proofs.ranges.limit_is_in_range.Goals as goal

pub limited_is_in_range-requires : goal.limited_is_in_range-requires
limited_is_in_range-requires c =
    let found : find_class c.args.job.now.class c.args.config.now.classes ≡ Some c.in-Some.class.now = sym c.class.ensures ∙ ap option_copied c.in-Some.is in
    let fits = All-find IsClass (λ (k : Class). bytes_eq k.name c.args.job.now.class) c.args.config.now.classes c.in-Some.class.now c.requires.ranges.classes found in
    fits.limit c.in-Some-limit.limit c.in-Some-limit.is
