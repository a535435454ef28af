use Rattle.std.proofs.Common.{◌≡◌, ◌≤◌, ◌∷◌, length, inl, rules, sym, subst, arith}
use Rattle.std.proofs.lemmas.List.{reverse-append}
use Rattle.std.specs.Prelude.{reverse, max, min, ◌+◌}
use Rattle.sq_outside.specs.File.{File, overwritten}
use Rattle.sq_outside.specs.MemoryFileView.{file_of}
use Rattle.sq_outside.proofs.Sound.{sound_written}
use Rattle.sq_outside.proofs.memory.file.MemFile.write.Goals as goal

pub invariant_of-self-2 : goal.invariant_of-self-2
invariant_of-self-2 c =
    let file = file_of c.self.inside in
    let within = subst (λ (f : File). c.args.at ≤ length f.reads) (sym c.self.view_is) c.requires.place in
    let sound = sound_written c.args.at c.args.count c.args.bytes.now file c.self.invariant.sound (λ place. omega (arith, c.type_inv.bytes place)) within c.requires.prefix c.requires.fits in
    let reads : c.overwrite.new.bytes.items ≡ overwritten c.self.inside.reads.items c.args.at c.args.bytes.now = search rules in
    let ranges : reverse c.push.new.self.items ≡ record { at = c.args.at; count = c.args.count } ∷ reverse c.self.inside.written.items = search (rules, reverse-append) in
    let greatest : c.max-self-inside.result ≡ max c.self.inside.greatest (c.args.at + c.args.count) = search rules in
    let intact : c.min-self-inside.result ≡ min c.self.inside.intact c.args.at = search rules in
    record {
      sound = rw (reads, ranges, greatest) sound;
      short = omega (arith, intact, c.self.invariant.short);
      outside = λ place below. rw ranges (inl (omega (arith, intact, below)), c.self.invariant.outside place (omega (arith, intact, below)));
    }

pub returns-clause-sound : goal.returns-clause-sound
returns-clause-sound c = (invariant_of-self-2 c).sound
