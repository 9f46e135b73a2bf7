use Rattle.std.proofs.Common.{ℕ, List, sym, subst, length}
use Rattle.page_frames.specs.PageBytes.{byte_of, AreMarked}
use Rattle.page_frames.proofs.frames.Frames.write.Goals as goal

pub returns-clause-held : goal.returns-clause-held
returns-clause-held c m = c.write.ensures.held (subst (λ (memory : List ℕ). AreMarked (byte_of memory) c.args.place (length c.args.bytes.now)) (sym c.self.view_is) m)
