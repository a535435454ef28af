-- What a file that may be missing has left.
use Rattle.std.specs.Prelude.{ℕ, List, [], Option, None, Some}
use Rattle.sq_outside.specs.declared.host.optional_file.OptionalFile.{OptionalFile}
use Rattle.sq_outside.specs.declared.host.optional_file.OptionalFile.TheVariants.{File, Missing, Unreadable}

-- a file that is missing has no bytes; of one that can't be opened nothing is known
abbrev pub bytes_of : {R : Type 0} → (R → Option (List ℕ)) → OptionalFile R → Option (List ℕ)
bytes_of remaining (File file) = remaining file
bytes_of remaining Missing = Some []
bytes_of remaining Unreadable = None
