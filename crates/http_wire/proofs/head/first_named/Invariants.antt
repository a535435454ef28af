use Rattle.std.proofs.Common.{◌≡◌, map, drop}
use Rattle.httparse.specs.Spans.{header_bytes}
use Rattle.http_wire.specs.Head.{values_of}
use Rattle.http_wire.proofs.head.first_named.Given as goal

-- no field so far has the name
abbrev pub invariant-loop-i : goal.invariant-loop-i
invariant-loop-i l = values_of l.name (map (header_bytes l.head) (drop l.i l.fields)) ≡ values_of l.name (map (header_bytes l.head) l.fields)
