use Rattle.std.specs.Option.{option_copied_mut}
use Rattle.std.proofs.Common.{ap, sym, ◌∙◌, is_some}
use Rattle.std.proofs.lemmas.Bool.{true≢false}
use Rattle.exec_tables.proofs.RowLemmas.{found, put_in}
use Rattle.exec_tables.proofs.rows.replace.Goals as goal

pub unreachable-requires : goal.unreachable-requires
unreachable-requires g c = true≢false (sym c.requires ∙ ap is_some (found g.met.K.Ord.total g.K.PartialEq.eq g.met.K.Ord.matches_eq c.args.rows.now.entries c.args.key.now ∙ sym c.get_mut.ensures.value ∙ ap option_copied_mut c.in-None.is))

pub returns-clause-rows : goal.returns-clause-rows
returns-clause-rows g c = put_in g.met.K.Ord.total g.K.PartialEq.eq g.met.K.Ord.matches_eq g.met.K.Key.exact c.args.rows.now.entries (c.get_mut.follows.lender c.args.row).entries c.args.key.now c.args.row (((c.get_mut.follows.holds c.args.row).3 (ap is_some (sym c.get_mut.ensures.value ∙ ap option_copied_mut c.in-Some.is))).0)
