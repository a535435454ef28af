-- The bytes of a refusal's key.
use Rattle.std.specs.Prelude.{ℕ, List}
use Rattle.toml_members.specs.declared.key.KeyText.{KeyText}
use Rattle.toml_members.specs.declared.key.KeyText.TheVariants.{Fixed, Made}

abbrev pub bytes_of : KeyText → List ℕ
bytes_of (Fixed text) = text.now
bytes_of (Made text) = text
