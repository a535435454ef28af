use Rattle.std.proofs.Common.{◌≡◌, true, ◌++◌, take}
use Rattle.std.specs.List.{flat_map, list_all}
use Rattle.std.specs.Str.{is_utf8}
use Rattle.journal_format.specs.Spelling.{counted}
use Rattle.journal_format.proofs.writer.put_each_counted.Given as goal

abbrev pub invariant-loop-c : goal.invariant-loop-c
invariant-loop-c l = (l.out.items ≡ l.fn.out.items ++ flat_map counted (take l.c-index l.cs)) × (list_all (λ c. is_utf8 c.list) (take l.c-index l.cs) ≡ true)
