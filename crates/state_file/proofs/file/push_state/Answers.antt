use Rattle.std.proofs.Common.{◌≡◌, ◌++◌, List, ℕ, ap, ◌∙◌, subst, OnOk, refl, arith}
use Rattle.jam_codec.specs.Spelling.{natural}
use Rattle.byte_numbers.specs.Numbers.{little_endian}
use Rattle.jam_accounts.specs.Accounts.{State}
use Rattle.state_file.specs.StateFile.{accounts_format, state_format}
use Rattle.state_file.proofs.Maps.{on_ok-and, behind}
use Rattle.state_file.proofs.Versions.{version_small}
use Rattle.state_file.proofs.file.push_state.Goals as goal

pub returns-clause-ok : goal.returns-clause-ok
returns-clause-ok c =
    let s = c.state.inside in
    let fourth : List ℕ = (accounts_format s.version).spell s.accounts in
    let third : List ℕ = s.entropy ++ fourth in
    let second : List ℕ = little_endian 4 s.slot ++ third in
    subst (λ (state : State). OnOk c.write_accounts.result (c.write_accounts.new.out.items ≡ c.args.out.now.items ++ state_format.spell state)) c.state.view_is
    (on_ok-and c.write_accounts.result
    (λ written. behind c.args.out.now.items (natural s.version) second (c.in_ok-push_natural.ensures.ok ∙ ap (λ n. c.args.out.now.items ++ natural n) c.from.ensures) (behind c.push_natural.new.out.items (little_endian 4 s.slot) third (c.in_ok-push_fixed.ensures.ok ∙ ap (λ n. c.push_natural.new.out.items ++ little_endian 4 n) c.from-2.ensures) (behind c.push_fixed.new.out.items s.entropy fourth c.in_ok-extend_from_slice.ensures.items written)))
    c.write_accounts.ensures.ok)

pub returns-clause-fits : goal.returns-clause-fits
returns-clause-fits c =
    subst (λ (state : State). OnOk c.write_accounts.result (state_format.Fits state)) c.state.view_is
    (on_ok-and c.write_accounts.result (λ fit. ((version_small c.state.inside.version c.state.invariant.known, c.state.invariant.known), ((omega arith, refl), ((omega arith, refl), fit)))) c.write_accounts.ensures.fits)
