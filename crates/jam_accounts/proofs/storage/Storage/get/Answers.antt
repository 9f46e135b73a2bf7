use Rattle.std.proofs.Common.{ap, sym, ◌∙◌, Some, option_map, Vec, ℕ, Global}
use Rattle.std.specs.FinMap as fin
use Rattle.std.specs.Cmp.Lexicographic.{nat_list_cmp_total}
use Rattle.jam_accounts.specs.Accounts.{bytes_cmp}
use Rattle.jam_accounts.specs.MapLaws.{got}
use Rattle.jam_accounts.proofs.storage.Storage.get.Goals as goal

pub returns-in-Some : goal.returns-in-Some
returns-in-Some c =
    ap Some c.as_slice.ensures.value ∙ ap (option_map (λ (v : Vec ℕ Global). v.items)) c.in-Some.ensures.value
    ∙ sym (got bytes_cmp (λ (k : Vec ℕ Global). k.items) (λ (v : Vec ℕ Global). v.items) nat_list_cmp_total c.self.inside.map c.args.key.now)
    ∙ ap (λ m. fin.get m c.args.key.now) c.self.view_is

pub returns-in-None : goal.returns-in-None
returns-in-None c =
    ap (option_map (λ (v : Vec ℕ Global). v.items)) c.in-None.ensures.value
    ∙ sym (got bytes_cmp (λ (k : Vec ℕ Global). k.items) (λ (v : Vec ℕ Global). v.items) nat_list_cmp_total c.self.inside.map c.args.key.now)
    ∙ ap (λ m. fin.get m c.args.key.now) c.self.view_is
