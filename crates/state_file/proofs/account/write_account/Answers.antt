use Rattle.std.proofs.Common.{◌≡◌, ◌++◌, ℕ, List, ap, ◌∙◌, subst, OnOk}
use Rattle.jam_codec.specs.Format.{any, fixed_where}
use Rattle.byte_numbers.specs.Numbers.{little_endian}
use Rattle.jam_accounts.specs.Accounts.{Account}
use Rattle.state_file.specs.StateFile.{not_in_first, storage_format, preimages_format, lookups_format, account_format}
use Rattle.state_file.proofs.Maps.{on_ok-and, behind}
use Rattle.state_file.proofs.account.write_account.Goals as goal

pub returns-clause-ok : goal.returns-clause-ok
returns-clause-ok c =
    let a = c.account.inside in
    let gratis : List ℕ = (not_in_first c.args.version (fixed_where 8 any)).spell a.gratis in
    let created : List ℕ = (not_in_first c.args.version (fixed_where 4 any)).spell a.created in
    let ninth : List ℕ = lookups_format.spell a.lookups in
    let eighth : List ℕ = preimages_format.spell a.preimages ++ ninth in
    let seventh : List ℕ = storage_format.spell a.storage ++ eighth in
    let sixth : List ℕ = created ++ seventh in
    let fifth : List ℕ = gratis ++ sixth in
    let fourth : List ℕ = little_endian 8 a.min_transfer ++ fifth in
    let third : List ℕ = little_endian 8 a.min_accumulate ++ fourth in
    let second : List ℕ = little_endian 8 a.balance ++ third in
    subst (λ (account : Account). OnOk c.write_lookups.result (c.write_lookups.new.out.items ≡ c.args.out.now.items ++ (account_format c.args.version).spell account)) c.account.view_is
    (on_ok-and c.write_lookups.result
    (λ written. behind c.args.out.now.items a.code_hash second c.in_ok-extend_from_slice.ensures.items
    (behind c.extend_from_slice.new.self.items (little_endian 8 a.balance) third c.in_ok-push_fixed.ensures.ok
    (behind c.push_fixed.new.out.items (little_endian 8 a.min_accumulate) fourth c.in_ok-push_fixed-2.ensures.ok
    (behind c.push_fixed-2.new.out.items (little_endian 8 a.min_transfer) fifth c.in_ok-push_fixed-3.ensures.ok
    (behind c.push_fixed-3.new.out.items gratis sixth c.in_ok-push_unless_first.ensures.ok
    (behind c.push_unless_first.new.out.items created seventh (c.in_ok-push_unless_first-2.ensures.ok ∙ ap (λ n. c.push_unless_first.new.out.items ++ (not_in_first c.args.version (fixed_where 4 any)).spell n) c.from.ensures)
    (behind c.push_unless_first-2.new.out.items (storage_format.spell a.storage) eighth c.in_ok-write_storage.ensures.ok
    (behind c.write_storage.new.out.items (preimages_format.spell a.preimages) ninth c.in_ok-write_preimages.ensures.ok written))))))))
    c.write_lookups.ensures.ok)
