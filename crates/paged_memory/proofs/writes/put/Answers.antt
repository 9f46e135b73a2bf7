use Rattle.std.proofs.Common.{◌∙◌, ◌<◌, ap, refl, arith, length, ℕ}
use Rattle.std.proofs.lemmas.Result.{on_ok_weaker}
use Rattle.std.proofs.lemmas.List.Elements.{All-from_get_or}
use Rattle.paged_memory.specs.Seen.{seen_from}
use Rattle.paged_memory.proofs.Sight.{marked_seen}
use Rattle.paged_memory.proofs.Writing.{put_all, whole_written, on_result, whole_by}
use Rattle.paged_memory.proofs.writes.put.Goals as goal

pub returns-clause-ok : goal.returns-clause-ok
returns-clause-ok c =
    on_ok_weaker c.write.result
    (λ e. ap (seen_from 0 c.args.held.now.rights) e ∙ put_all c.args.bytes.now c.args.held.now.rights c.args.held.now.bytes c.args.from c.requires.room c.requires.whole.addresses)
    c.write.ensures.ok

pub returns-clause-whole : goal.returns-clause-whole
returns-clause-whole c =
    on_result c.write.result c.write.ensures.ok c.write.ensures.err
    (λ e. whole_by _ c.args.held.now.rights c.write.new.self refl e (whole_written c.args.held.now c.args.from c.args.bytes.now c.requires.whole c.requires.room (All-from_get_or (λ (b : ℕ). b < 256) c.args.bytes.now 0 (λ k _. omega (arith, c.type_inv.bytes k))) c.requires.there))
    (λ e. whole_by c.args.held.now c.args.held.now.rights c.write.new.self refl e c.requires.whole)

pub returns-clause-held : goal.returns-clause-held
returns-clause-held c m = c.write.ensures.held (marked_seen c.args.held.now c.args.from (length c.args.bytes.now) c.requires.whole m)
