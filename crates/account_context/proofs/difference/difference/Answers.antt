use Rattle.std.proofs.Common.{◌≡◌, ℕ, Bool, Option, not, unwrap_or, ap, sym, ◌∙◌}
use Rattle.std.specs.FinMap as fin
use Rattle.jam_accounts.specs.Accounts.{Account, Accounts, blank_account}
use Rattle.account_context.proofs.Differences.{kept_without}
use Rattle.account_context.proofs.difference.difference.Goals as goal

pub returns : goal.returns
returns c =
    let missing : ℕ → Bool = λ id. not (fin.contains_key c.args.base.now id) in
    let own : c.unwrap-own.result ≡ unwrap_or (fin.get c.args.now.accounts c.args.service) blank_account =
    sym (ap (λ (found : Option Account). unwrap_or found blank_account) (sym c.remove.ensures.value ∙ c.unwrap-own.ensures)) in
    let added : c.keep_added.new.now ≡ fin.retain_keys c.args.now.accounts missing =
    c.keep_added.ensures ∙ ap (λ (m : Accounts). fin.retain_keys m missing) c.remove.ensures.after ∙ kept_without c.args.now.accounts c.args.service missing (ap not c.requires.base) in
    λ i. record {
      own = own i;
      added = added i;
      removed = c.in_ok-removed.ensures i;
      transfers = c.args.now.transfers;
      yielded = c.args.now.yielded;
      provided = c.args.now.provided;
    }
