use Rattle.std.proofs.Common.{◌≡◌, ◌+◌, ◌<◌, ap, sym, ◌∙◌, arith}
use Rattle.jam_accounts.specs.Accounts.{State}
use Rattle.account_context.specs.Context.{Pair}
use Rattle.account_context.specs.FreeIds.{taken_count, max_services}
use Rattle.account_context.specs.NewIdLaws.{free_id-none}
use Rattle.account_context.proofs.HalfPairs.{taken_is, first_is}
use Rattle.account_context.proofs.copies.CopiesScope.free_id.Goals as goal

pub returns-then-taken-ge-MAX_SERVICES : goal.returns-then-taken-ge-MAX_SERVICES
returns-then-taken-ge-MAX_SERVICES c =
    let base = ap (λ (s : State). s.accounts) c.base.view_is ∙ ap (λ (p : Pair). p.base) c.self.view_is in
    let now = ap (λ (p : Pair). p.now.accounts) c.self.view_is in
    let taken : c.len.result + c.count_added.result ≡ taken_count c.args.self.now =
    taken_is c.args.self.now c.base.inside.accounts c.self.inside.now.accounts c.len.result c.count_added.result base now c.len.ensures.count c.count_added.ensures.count in
    sym (free_id-none c.args.self.now (omega (arith, taken, c.if-taken-ge-MAX_SERVICES.true)))

pub returns : goal.returns
returns c =
    let base = ap (λ (s : State). s.accounts) c.base.view_is ∙ ap (λ (p : Pair). p.base) c.self.view_is in
    let now = ap (λ (p : Pair). p.now.accounts) c.self.view_is in
    let taken : c.len.result + c.count_added.result ≡ taken_count c.args.self.now =
    taken_is c.args.self.now c.base.inside.accounts c.self.inside.now.accounts c.len.result c.count_added.result base now c.len.ensures.count c.count_added.ensures.count in
    let few : taken_count c.args.self.now < max_services = omega (arith, taken, c.if-taken-ge-MAX_SERVICES.false) in
    c.first_free.ensures ∙ first_is c.args.self.now c.base.inside.accounts c.self.inside.now.accounts c.self.inside.now.candidate base now (ap (λ (p : Pair). p.now.candidate) c.self.view_is) few
