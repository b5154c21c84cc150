use Rattle.std.proofs.Common.{◌≡◌, ◌&&◌, ◌-◌, ◌^◌, ◌<◌, ℕ, List, true, length, Option, Some, None, is_some, is_none}
use Rattle.std.proofs.Common.{IfSome, refl, sym, ap, subst, ◌∙◌}
use Rattle.std.specs.Prelude.{IfNone}
use Rattle.std.proofs.lemmas.Bool.{lt-ltb}
use Rattle.hg_types.specs.declared.node.Node.{Node}
use Rattle.hg_keys.specs.Bookmarks.{node_of, with_bookmark}
use Rattle.hg_keys.proofs.BackLemmas.{set_back_to, stays_away}
use Rattle.hg_keys.proofs.ChangeLemmas.{both}
use Rattle.hg_keys.proofs.SetLemmas.{set_found}
use Rattle.hg_keys.proofs.bookmarks.put_after_savepoint.Goals as goal

-- ---- a name that moves

pub returns-in-Some-2-clause-set : goal.returns-in-Some-2-clause-set
returns-in-Some-2-clause-set g c =
    let pairs = c.args.names.now.pairs in
    let name = c.args.name.now in
    c.in_ok-was-in-Some.ensures.ok ∙ ap (with_bookmark pairs name) (sym c.in-Some.is)

pub returns-in-Some-2-clause-back : goal.returns-in-Some-2-clause-back
returns-in-Some-2-clause-back g c =
    let pairs = c.args.names.now.pairs in
    let name = c.args.name.now in
    let new = c.in_ok-was-in-Some.ensures.ok in
    let named = c.in_ok-kept-in-Some.ensures in
    (λ i. with_bookmark (new i) (named i) (Some c.in-Some-2.was))
    ∙ set_back_to name pairs (Some c.in-Some.node) (Some c.in-Some-2.was) c.in_ok-was-in-Some.ensures.in_order
    (sym c.in_ok-was-in-Some.ensures.was ∙ c.in-Some-2.is)

pub returns-in-Some-2-clause-can : goal.returns-in-Some-2-clause-can
returns-in-Some-2-clause-can g c =
    let pairs = c.args.names.now.pairs in
    let name = c.args.name.now in
    let new = c.in_ok-was-in-Some.ensures.ok in
    let named = c.in_ok-kept-in-Some.ensures in
    ap (λ (o : Option Node). is_some o && true)
    ((λ i. node_of (new i) (named i)) ∙ set_found pairs name (Some c.in-Some.node))

-- ---- a name that comes

pub returns-in-None-2-clause-set : goal.returns-in-None-2-clause-set
returns-in-None-2-clause-set g c =
    let pairs = c.args.names.now.pairs in
    let name = c.args.name.now in
    c.in_ok-was-in-Some.ensures.ok ∙ ap (with_bookmark pairs name) (sym c.in-Some.is)

pub returns-in-None-2-clause-back : goal.returns-in-None-2-clause-back
returns-in-None-2-clause-back g c =
    let pairs = c.args.names.now.pairs in
    let name = c.args.name.now in
    let new = c.in_ok-was-in-Some.ensures.ok in
    let named = c.in_ok-kept-in-Some.ensures in
    (λ i. with_bookmark (new i) (named i) None)
    ∙ set_back_to name pairs (Some c.in-Some.node) None c.in_ok-was-in-Some.ensures.in_order
    (sym c.in_ok-was-in-Some.ensures.was ∙ c.in-None-2.is)

pub returns-in-None-2-clause-can : goal.returns-in-None-2-clause-can
returns-in-None-2-clause-can g c =
    let pairs = c.args.names.now.pairs in
    let name = c.args.name.now in
    let new = c.in_ok-was-in-Some.ensures.ok in
    let named = c.in_ok-kept-in-Some.ensures in
    ap (λ (o : Option Node). is_some o && true)
    ((λ i. node_of (new i) (named i)) ∙ set_found pairs name (Some c.in-Some.node))

-- ---- a name that leaves

pub returns-in-Some-3-clause-set : goal.returns-in-Some-3-clause-set
returns-in-Some-3-clause-set g c =
    let pairs = c.args.names.now.pairs in
    let name = c.args.name.now in
    c.in_ok-gone-in-None.ensures.names ∙ ap (with_bookmark pairs name) (sym c.in-None.is)

pub returns-in-Some-3-clause-back : goal.returns-in-Some-3-clause-back
returns-in-Some-3-clause-back g c =
    let pairs = c.args.names.now.pairs in
    let name = c.args.name.now in
    let new = c.in_ok-gone-in-None.ensures.names in
    let gone = c.in-Some-3.gone in
    let named : gone.0 ≡ name = subst
    (λ (o : Option (List ℕ × Node)). IfSome o (λ n. n.0 ≡ name)) c.in-Some-3.is c.in_ok-gone-in-None.ensures.name in
    let node : node_of pairs name ≡ Some gone.1 = subst
    (λ (o : Option (List ℕ × Node)). IfSome o (λ n. node_of pairs name ≡ Some n.1)) c.in-Some-3.is
    c.in_ok-gone-in-None.ensures.node in
    (λ i. with_bookmark (new i) (named i) (Some gone.1))
    ∙ set_back_to name pairs None (Some gone.1) c.in_ok-gone-in-None.ensures.in_order node

pub returns-in-Some-3-clause-can : goal.returns-in-Some-3-clause-can
returns-in-Some-3-clause-can g c =
    let pairs = c.args.names.now.pairs in
    let name = c.args.name.now in
    let left = c.remove.new.self.pairs in
    let new = c.in_ok-gone-in-None.ensures.names in
    let gone = c.in-Some-3.gone in
    let named : gone.0 ≡ name = subst
    (λ (o : Option (List ℕ × Node)). IfSome o (λ n. n.0 ≡ name)) c.in-Some-3.is c.in_ok-gone-in-None.ensures.name in
    let fits : length left < 2 ^ 64 - 1 = subst
    (λ (o : Option (List ℕ × Node)). IfSome o (λ n. length left < 2 ^ 64 - 1)) c.in-Some-3.is
    c.in_ok-gone-in-None.ensures.fits in
    let away : is_none (node_of left gone.0) ≡ true = ap is_none
    ((λ i. node_of (new i) (named i)) ∙ set_found pairs name None) in
    both _ _ (both _ _ away (lt-ltb (length left) (2 ^ 64 - 1) fits)) refl

-- ---- a name that was not there

pub returns-in-None-3-clause-set : goal.returns-in-None-3-clause-set
returns-in-None-3-clause-set g c =
    let pairs = c.args.names.now.pairs in
    let name = c.args.name.now in
    c.in_ok-gone-in-None.ensures.names ∙ ap (with_bookmark pairs name) (sym c.in-None.is)

pub returns-in-None-3-clause-back : goal.returns-in-None-3-clause-back
returns-in-None-3-clause-back g c =
    let pairs = c.args.names.now.pairs in
    let name = c.args.name.now in
    let none : node_of pairs name ≡ None = subst
    (λ (o : Option (List ℕ × Node)). IfNone o (node_of pairs name ≡ None)) c.in-None-3.is
    c.in_ok-gone-in-None.ensures.none in
    c.in_ok-gone-in-None.ensures.names ∙ stays_away name pairs c.in_ok-gone-in-None.ensures.in_order none
