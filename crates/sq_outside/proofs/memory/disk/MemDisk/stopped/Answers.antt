use Rattle.std.proofs.Common.{◌≡◌, [], ◌∙◌, ap, List, ℕ}
use Rattle.std.proofs.lemmas.Result.{IfOk-weaker}
use Rattle.sq_outside.specs.Disk.{Two, AreImages}
use Rattle.sq_outside.specs.MemoryDisk.{unused}
use Rattle.sq_outside.specs.MemoryDiskView.{memory_disk}
use Rattle.sq_outside.proofs.memory.disk.MemDisk.stopped.Goals as goal

pub returns-clause-image : goal.returns-clause-image
returns-clause-image c =
    let image : Two (List ℕ) = (c.in_ok-image.field-0.items, c.in_ok-image-2.field-0.items) in
    let are : AreImages c.args.self.now.store.now image = (c.in_ok-image.ensures.image, c.in_ok-image-2.ensures.image) in
    IfOk-weaker c.new-2.result (λ disk. memory_disk disk ≡ unused image c.new.result.items)
    (λ disk. (x : Two (List ℕ)) × AreImages c.args.self.now.store.now x × (memory_disk disk ≡ unused x []))
    (λ disk is. (image, are, is ∙ ap (unused image) c.new.ensures.items)) c.new-2.ensures
