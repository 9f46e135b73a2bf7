use Rattle.std.proofs.Common.{Some, ap, sym, ◌∙◌}
use Rattle.std.specs.Ordering.{nat_cmp}
use Rattle.jam_accounts.specs.Accounts.{Account}
use Rattle.std.specs.Cmp.{nat_cmp_total}
use Rattle.std.specs.FinMap as fin
use Rattle.std.specs.FinMap.{nat_cmp-IsAntisymmetric}
use Rattle.account_overlay.specs.Layers.{seen_change, held}
use Rattle.account_overlay.proofs.Overs.{taken_on, untouched_on, untouched_there}
use Rattle.account_overlay.proofs.others.held_accounts.Goals as goal

pub loop-id-preserved-in-Continue-1 : goal.loop-id-preserved-in-Continue-1
loop-id-preserved-in-Continue-1 c =
    let old = c.loop-id.places in
    let new = c.pop_last.new.self in
    let before = c.loop-id.accounts in
    record {
      taken = taken_on nat_cmp_total nat_cmp-IsAntisymmetric (λ k. k) (seen_change (λ a. a)) fin.empty old new c.in-Some.id c.in-Some.change before c.in-Some.ensures.removal _ c.put.new.self (Some c.into_account.result) (ap (λ change. held (seen_change (λ a. a) change) (fin.get {X = Account} {R = nat_cmp} fin.empty c.in-Some.id)) c.in-Is.is ∙ ap Some (sym c.into_account.ensures)) c.in_ok-put-in-Is.ensures.ok c.loop-id.invariant.taken;
      untouched = untouched_on nat_cmp_total nat_cmp-IsAntisymmetric (λ k. k) (seen_change (λ a. a)) fin.empty old new c.in-Some.id c.in-Some.change before c.in-Some.ensures.removal c.in-Some.ensures.updates (Some c.into_account.result) c.put.new.self c.in_ok-put-in-Is.ensures.ok c.loop-id.invariant.untouched;
    }

pub loop-id-preserved-in-Gone : goal.loop-id-preserved-in-Gone
loop-id-preserved-in-Gone c =
    let old = c.loop-id.places in
    let new = c.pop_last.new.self in
    let before = c.loop-id.accounts in
    record {
      taken = taken_on nat_cmp_total nat_cmp-IsAntisymmetric (λ k. k) (seen_change (λ a. a)) fin.empty old new c.in-Some.id c.in-Some.change before c.in-Some.ensures.removal _ before (fin.get {X = Account} {R = nat_cmp} fin.empty c.in-Some.id) (ap (λ change. held (seen_change (λ a. a) change) (fin.get {X = Account} {R = nat_cmp} fin.empty c.in-Some.id)) c.in-Gone.is ∙ sym (fin.get-empty nat_cmp c.in-Some.id)) (untouched_there nat_cmp_total nat_cmp-IsAntisymmetric (λ k. k) (seen_change (λ a. a)) fin.empty old new c.in-Some.id c.in-Some.change before c.in-Some.ensures.removal c.loop-id.invariant.untouched c.in-Some.ensures.value) c.loop-id.invariant.taken;
      untouched = untouched_on nat_cmp_total nat_cmp-IsAntisymmetric (λ k. k) (seen_change (λ a. a)) fin.empty old new c.in-Some.id c.in-Some.change before c.in-Some.ensures.removal c.in-Some.ensures.updates (fin.get {X = Account} {R = nat_cmp} fin.empty c.in-Some.id) before (untouched_there nat_cmp_total nat_cmp-IsAntisymmetric (λ k. k) (seen_change (λ a. a)) fin.empty old new c.in-Some.id c.in-Some.change before c.in-Some.ensures.removal c.loop-id.invariant.untouched c.in-Some.ensures.value) c.loop-id.invariant.untouched;
    }

pub loop-id-preserved : goal.loop-id-preserved
loop-id-preserved c =
    let old = c.loop-id.places in
    let new = c.pop_last.new.self in
    let before = c.loop-id.accounts in
    record {
      taken = taken_on nat_cmp_total nat_cmp-IsAntisymmetric (λ k. k) (seen_change (λ a. a)) fin.empty old new c.in-Some.id c.in-Some.change before c.in-Some.ensures.removal _ before (fin.get {X = Account} {R = nat_cmp} fin.empty c.in-Some.id) (ap (λ change. held (seen_change (λ a. a) change) (fin.get {X = Account} {R = nat_cmp} fin.empty c.in-Some.id)) c.in-AsBase.is) (untouched_there nat_cmp_total nat_cmp-IsAntisymmetric (λ k. k) (seen_change (λ a. a)) fin.empty old new c.in-Some.id c.in-Some.change before c.in-Some.ensures.removal c.loop-id.invariant.untouched c.in-Some.ensures.value) c.loop-id.invariant.taken;
      untouched = untouched_on nat_cmp_total nat_cmp-IsAntisymmetric (λ k. k) (seen_change (λ a. a)) fin.empty old new c.in-Some.id c.in-Some.change before c.in-Some.ensures.removal c.in-Some.ensures.updates (fin.get {X = Account} {R = nat_cmp} fin.empty c.in-Some.id) before (untouched_there nat_cmp_total nat_cmp-IsAntisymmetric (λ k. k) (seen_change (λ a. a)) fin.empty old new c.in-Some.id c.in-Some.change before c.in-Some.ensures.removal c.loop-id.invariant.untouched c.in-Some.ensures.value) c.loop-id.invariant.untouched;
    }
