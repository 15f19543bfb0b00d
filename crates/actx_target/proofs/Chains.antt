-- The chain of scopes inside another.
use Rattle.std.proofs.Common.{◌≡◌, ◌∷◌, ◌∙◌, List, ℕ, Global, ap, sym}
use Rattle.std.specs.declared.rc.Rc.{Rc}
use Rattle.actx_target.specs.Chains.{chain_of, chain_step, link_step}
use Rattle.actx_target.specs.declared.chain.Chain.TheFolds.{fold-roll-Chain, fold_out-Link}
use Rattle.actx_target.specs.declared.chain.Chain.TheOpen as open_chain
use Rattle.actx_target.specs.declared.chain.Chain.TheVariants as c
use Rattle.actx_target.specs.declared.chain.Link.{Link}

pub inside_is : (link : Rc Link Global) → chain_of (c.Inside link) ≡ link.value.number ∷ chain_of link.value.outer
inside_is link =
    ap chain_of (sym (c.rolls-Inside link))
    ∙ fold-roll-Chain (List ℕ) (List ℕ) chain_step link_step (open_chain.Inside link)
    ∙ fold_out-Link (List ℕ) (List ℕ) chain_step link_step link.value
