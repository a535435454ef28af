use Rattle.std.proofs.Common.{inl, inr, length, take, Some, ap, rules, arith, length-take}
use Rattle.std.proofs.lemmas.Grind.{common_steps}
use Rattle.std.proofs.lemmas.Result.{on_err_weaker}
use Rattle.sq_outside.specs.File.{HalfWrites}
use Rattle.sq_outside.specs.MemoryDisk.{MemoryDisk}
use Rattle.sq_outside.specs.MemoryFile.{written}
use Rattle.sq_outside.proofs.HalfDone.{half_written, goes_on}
use Rattle.sq_outside.proofs.memory.disk.MemDiskDisk.TheImpl.Goals as goal

pub write_at-tells : goal.write_at-tells
write_at-tells c = record {
  fits = c.ensures.fits;
  written = grind (arith, common_steps);
  in_doubt = on_err_weaker c.result (λ failed. elim failed [
    | inl same ↦ inl (ap (λ (d : MemoryDisk). Some d.history) same)
    | inr half ↦
        let is = ap (λ (d : MemoryDisk). d.history) half.3 in
        let few = length-take half.0 c.args.piece.now in
        inr (goes_on c.args.file (HalfWrites c.args.at (length c.args.piece.now)) (written c.args.at (take half.0 c.args.piece.now) (length c.args.piece.now))
        c.args.self.now.store c.new.self.now.store c.requires.file is
        (half_written c.args.at (length c.args.piece.now) (take half.0 c.args.piece.now) _ c.requires.within (omega (arith, few)) half.2))
  ]) c.ensures.in_doubt;
  cause = search rules;
}
