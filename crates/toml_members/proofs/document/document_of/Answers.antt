use Rattle.std.proofs.Common.{true≢false, inr, refl, sym, ◌∙◌}
use Rattle.std.proofs.lemmas.Str.{is_utf8-from_IsUtf8}
use Rattle.toml_members.proofs.DocumentLemmas.{document_of-refused}
use Rattle.toml_members.proofs.document.document_of.Goals as goal

pub returns-in-Ok : goal.returns-in-Ok
returns-in-Ok c = rw (is_utf8-from_IsUtf8 c.args.text.now c.in-Ok.ensures.ok.0, c.in-Ok.ensures.ok.1) refl

pub returns-else-is_memory : goal.returns-else-is_memory
returns-else-is_memory c = rw c.fixed.ensures (inr (document_of-refused c.args.text.now _ refl (c.in-Err.ensures.refused (λ memory. true≢false (sym (c.is_memory.ensures.1 memory) ∙ c.if-is_memory.false)))))
