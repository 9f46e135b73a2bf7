use Rattle.std.proofs.Common.{Some, None, ap, ◌∙◌}
use Rattle.std.specs.Cmp.Lexicographic.{nat_list_cmp_total}
use Rattle.std.specs.FinMap as fin
use Rattle.jam_accounts.specs.MapLaws.{bytes_same}
use Rattle.account_overlay.specs.Layers.{seen_change, held}
use Rattle.account_overlay.proofs.Overs.{taken_on, untouched_on, untouched_there}
use Rattle.account_overlay.proofs.values.storage_after.Goals as goal

pub loop-key-preserved-in-Continue-branch-2 : goal.loop-key-preserved-in-Continue-branch-2
loop-key-preserved-in-Continue-branch-2 c =
    let old = c.loop-key.places in
    let new = c.pop_last.new.self in
    let base = c.args.base.now in
    let before = c.loop-key.storage in
    record {
      taken = taken_on nat_list_cmp_total bytes_same (λ k. k.items) (seen_change (λ v. v.items)) base old new c.in-Some.key c.in-Some.change before c.in-Some.ensures.removal _ c.put.new.self (Some c.in-Is.value.items) (ap (λ change. held (seen_change (λ v. v.items) change) (fin.get base c.in-Some.key.items)) c.in-Is.is) c.in_ok-put-in-Is.ensures.ok c.loop-key.invariant.taken;
      untouched = untouched_on nat_list_cmp_total bytes_same (λ k. k.items) (seen_change (λ v. v.items)) base old new c.in-Some.key c.in-Some.change before c.in-Some.ensures.removal c.in-Some.ensures.updates (Some c.in-Is.value.items) c.put.new.self c.in_ok-put-in-Is.ensures.ok c.loop-key.invariant.untouched;
    }

pub loop-key-preserved-in-Some : goal.loop-key-preserved-in-Some
loop-key-preserved-in-Some c =
    let old = c.loop-key.places in
    let new = c.pop_last.new.self in
    let base = c.args.base.now in
    let before = c.loop-key.storage in
    record {
      taken = taken_on nat_list_cmp_total bytes_same (λ k. k.items) (seen_change (λ v. v.items)) base old new c.in-Some.key c.in-Some.change before c.in-Some.ensures.removal _ c.remove.new.self None (ap (λ change. held (seen_change (λ v. v.items) change) (fin.get base c.in-Some.key.items)) c.in-Gone.is) (c.remove.ensures.after ∙ ap (fin.remove before) c.deref.ensures.value) c.loop-key.invariant.taken;
      untouched = untouched_on nat_list_cmp_total bytes_same (λ k. k.items) (seen_change (λ v. v.items)) base old new c.in-Some.key c.in-Some.change before c.in-Some.ensures.removal c.in-Some.ensures.updates None c.remove.new.self (c.remove.ensures.after ∙ ap (fin.remove before) c.deref.ensures.value) c.loop-key.invariant.untouched;
    }

pub loop-key-preserved : goal.loop-key-preserved
loop-key-preserved c =
    let old = c.loop-key.places in
    let new = c.pop_last.new.self in
    let base = c.args.base.now in
    let before = c.loop-key.storage in
    record {
      taken = taken_on nat_list_cmp_total bytes_same (λ k. k.items) (seen_change (λ v. v.items)) base old new c.in-Some.key c.in-Some.change before c.in-Some.ensures.removal _ before (fin.get base c.in-Some.key.items) (ap (λ change. held (seen_change (λ v. v.items) change) (fin.get base c.in-Some.key.items)) c.in-AsBase.is) (untouched_there nat_list_cmp_total bytes_same (λ k. k.items) (seen_change (λ v. v.items)) base old new c.in-Some.key c.in-Some.change before c.in-Some.ensures.removal c.loop-key.invariant.untouched c.in-Some.ensures.value) c.loop-key.invariant.taken;
      untouched = untouched_on nat_list_cmp_total bytes_same (λ k. k.items) (seen_change (λ v. v.items)) base old new c.in-Some.key c.in-Some.change before c.in-Some.ensures.removal c.in-Some.ensures.updates (fin.get base c.in-Some.key.items) before (untouched_there nat_list_cmp_total bytes_same (λ k. k.items) (seen_change (λ v. v.items)) base old new c.in-Some.key c.in-Some.change before c.in-Some.ensures.removal c.loop-key.invariant.untouched c.in-Some.ensures.value) c.loop-key.invariant.untouched;
    }
