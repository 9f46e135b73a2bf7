use Rattle.std.proofs.Common.{◌≡◌, ◌+◌, ◌∷◌, ◌++◌, [], ℕ, Bool, take, add-one, sym, ap, ◌∙◌, arith}
use Rattle.std.specs.Prelude.{if◌then◌else◌}
use Rattle.std.proofs.Math.Seq.{take-suc}
use Rattle.batch_file.specs.declared.delivery.Delivery.{Delivery}
use Rattle.batch_accumulate.proofs.OneDelivery.{delivered_more, none_yet}
use Rattle.batch_accumulate.proofs.deliveries.deliver_all.Goals as goal
use Rattle.batch_accumulate.proofs.deliveries.deliver_all.Goals.{then-branch, else-branch}

pub loop-delivery-init : goal.loop-delivery-init
loop-delivery-init c = record { few = omega arith; made = none_yet c.args.slot c.args.accounts.now c.args.deliveries.now }

pub loop-delivery-preserved : goal.loop-delivery-preserved
loop-delivery-preserved c =
    let at : ℕ = c.loop-delivery.delivery-index in
    let n : ℕ = c.loop-delivery.stored in
    let next : take (at + 1) c.args.deliveries.now ≡ take at c.args.deliveries.now ++ c.delivery-item.result ∷ [] =
    ap (λ (k : ℕ). take k c.args.deliveries.now) (add-one at) ∙ take-suc c.args.deliveries.now at c.delivery-item.result c.loop-delivery-test.true
    ∙ ap (λ (d : Delivery). take at c.args.deliveries.now ++ d ∷ []) (sym c.delivery-item.is) in
    let more = λ (m : ℕ) (count : m ≡ (if c.in_ok-deliver.field-0 then n + 1 else n)).
    delivered_more c.args.slot n m at c.args.accounts.now c.loop-delivery.accounts c.deliver.new.accounts c.args.deliveries.now c.delivery-item.result c.in_ok-deliver.field-0 next c.loop-delivery.invariant.made (c.in_ok-deliver.ensures.made n) count in
    elim c.if-branch.branch [
      | then-branch w ↦ record {
        few = omega (arith, w.stored-is, c.loop-delivery.invariant.few);
        made = more c.if-branch.stored (w.stored-is ∙ sym (ap (λ (b : Bool). if b then n + 1 else n) w.if-branch.true));
      }
      | else-branch w ↦ record {
        few = omega (arith, w.stored-is, c.loop-delivery.invariant.few);
        made = more c.if-branch.stored (w.stored-is ∙ sym (ap (λ (b : Bool). if b then n + 1 else n) w.if-branch.false));
      }
    ]
