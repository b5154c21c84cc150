use Rattle.std.proofs.Common.{◌≡◌, ◌∙◌, ap, subst, List, ℕ, Option, Bor, Some}
use Rattle.std.specs.List.{before_first, last_or}
use Rattle.std.specs.Option.{option_map}
use Rattle.hg_wireproto.specs.Branch.{branch_of, branches_in, is_nul, plain_extra}
use Rattle.hg_wireproto.specs.Text.{behind_first}
use Rattle.hg_wireproto.proofs.Pieces.{pieces_of, shorter}
use Rattle.hg_wireproto.proofs.Extras.{default_yet, named_here, none_left, other_here}
use Rattle.hg_wireproto.proofs.branch.escaped_branch.Goals as goal

pub loop-rest-init : goal.loop-rest-init
loop-rest-init c =
    ap (λ (t : List ℕ). last_or (Some (plain_extra t)) (branches_in (pieces_of is_nul (Some c.extras_of.result.now))))
    c.as_slice-found.ensures
    ∙ default_yet c.args.text.now c.extras_of.result.now c.extras_of.ensures

pub loop-rest-smaller-in-Some-behind_key : goal.loop-rest-smaller-in-Some-behind_key
loop-rest-smaller-in-Some-behind_key c =
    shorter is_nul _ _ c.in-Some.extras.now (ap (option_map (λ (t : Bor (List ℕ)). t.now)) c.in-Some.is)
    (c.split_once.ensures.behind ∙ ap (λ (t : Bor (List ℕ)). behind_first is_nul t.now) c.in-Some.extras-is)

pub loop-rest-smaller : goal.loop-rest-smaller
loop-rest-smaller c =
    shorter is_nul _ _ c.in-Some.extras.now (ap (option_map (λ (t : Bor (List ℕ)). t.now)) c.in-Some.is)
    (c.split_once.ensures.behind ∙ ap (λ (t : Bor (List ℕ)). behind_first is_nul t.now) c.in-Some.extras-is)

pub loop-rest-preserved-in-Some-behind_key : goal.loop-rest-preserved-in-Some-behind_key
loop-rest-preserved-in-Some-behind_key c =
    let left = λ (rest : Option (Bor (List ℕ))). option_map (λ (t : Bor (List ℕ)). t.now) rest in
    let found = Some (plain_extra c.loop-rest.found.now) in
    let so = subst (λ (rest : Option (Bor (List ℕ))). last_or found (branches_in (pieces_of is_nul (left rest)))
    ≡ Some (branch_of c.args.text.now)) c.in-Some.is c.loop-rest.invariant in
    named_here found c.in-Some.extras.now c.split_once.result.0.now c.in-Some-behind_key.name.now _ _
    (c.split_once.ensures.before ∙ ap (λ (t : Bor (List ℕ)). before_first is_nul t.now) c.in-Some.extras-is)
    (c.split_once.ensures.behind ∙ ap (λ (t : Bor (List ℕ)). behind_first is_nul t.now) c.in-Some.extras-is)
    c.in-Some-behind_key.ensures.found so

pub loop-rest-preserved : goal.loop-rest-preserved
loop-rest-preserved c =
    let left = λ (rest : Option (Bor (List ℕ))). option_map (λ (t : Bor (List ℕ)). t.now) rest in
    let found = Some (plain_extra c.loop-rest.found.now) in
    let so = subst (λ (rest : Option (Bor (List ℕ))). last_or found (branches_in (pieces_of is_nul (left rest)))
    ≡ Some (branch_of c.args.text.now)) c.in-Some.is c.loop-rest.invariant in
    other_here found c.in-Some.extras.now c.split_once.result.0.now _ _
    (c.split_once.ensures.before ∙ ap (λ (t : Bor (List ℕ)). before_first is_nul t.now) c.in-Some.extras-is)
    (c.split_once.ensures.behind ∙ ap (λ (t : Bor (List ℕ)). behind_first is_nul t.now) c.in-Some.extras-is)
    c.in_default-behind_key.ensures.none so

pub returns : goal.returns
returns c =
    none_left (plain_extra c.loop-rest.found.now) (branch_of c.args.text.now)
    (subst (λ (rest : Option (Bor (List ℕ))). last_or (Some (plain_extra c.loop-rest.found.now))
    (branches_in (pieces_of is_nul (option_map (λ (t : Bor (List ℕ)). t.now) rest)))
    ≡ Some (branch_of c.args.text.now)) c.in_default.is c.loop-rest.invariant)
