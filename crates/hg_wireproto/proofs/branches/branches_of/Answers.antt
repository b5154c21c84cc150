use Rattle.std.proofs.Common.{◌≡◌, ◌∙◌, ap, map, subst, sym, List, ℕ, ◌++◌, ◌∷◌, [], Vec, length}
use Rattle.std.proofs.lemmas.List.{append-nil, append_assoc, map-append}
use Rattle.std.proofs.lemmas.Map.Iter.{rest_all, rest_more}
use Rattle.hg_wireproto.specs.code.Branches.{AreBranches}
use Rattle.hg_wireproto.specs.declared.branches.Branch.{Branch}
use Rattle.hg_wireproto.proofs.branches.branches_of.Goals as goal

pub loop-name-init : goal.loop-name-init
loop-name-init g c =
    ap (λ (bs : List (Branch g.row.A.Denot)).
    let shown : List (List ℕ × List ℕ) = map (λ b. (b.name.items, b.revs.items)) bs in
    let left : List (List ℕ × List ℕ) =
    map (λ e. (e.0.items, e.1.items)) c.into_iter-name-iterator.result in
    shown ++ left) c.new-branches.ensures.items

pub loop-name-preserved : goal.loop-name-preserved
loop-name-preserved g c =
    let left = rest_more (λ x. x) _ _ _ _ c.in-Some.is c.next.ensures.steps in
    let view = λ (e : Vec ℕ g.row.A.Denot × Vec ℕ g.row.A.Denot).
    let pair : List ℕ × List ℕ = (e.0.items, e.1.items) in pair in
    let seen = λ (b : Branch g.row.A.Denot). let pair : List ℕ × List ℕ = (b.name.items, b.revs.items) in pair in
    let old = c.loop-name.branches.items in
    let one : List ℕ × List ℕ = (c.in-Some.name.items, c.in-Some.revs.items) in
    ap (λ (bs : List (Branch g.row.A.Denot)). map seen bs ++ map view c.next.new.self) c.in_ok-push.ensures.items
    ∙ ap (λ (shown : List (List ℕ × List ℕ)). shown ++ map view c.next.new.self) (map-append seen old _)
    ∙ append_assoc (map seen old) (one ∷ []) (map view c.next.new.self)
    ∙ ap (λ es. map seen old ++ map view es) (sym left)
    ∙ c.loop-name.invariant

pub returns-clause-branches : goal.returns-clause-branches
returns-clause-branches g c =
    let none = rest_all (λ x. x) _ _ _ c.in-None.is c.next.ensures.steps in
    let view = λ (e : Vec ℕ g.row.A.Denot × Vec ℕ g.row.A.Denot).
    let pair : List ℕ × List ℕ = (e.0.items, e.1.items) in pair in
    let seen = λ (b : Branch g.row.A.Denot). let pair : List ℕ × List ℕ = (b.name.items, b.revs.items) in pair in
    let shown = map seen c.loop-name.branches.items in
    let same : shown ≡ map view c.in_ok-members.members.entries = sym (append-nil shown)
    ∙ ap (λ es. shown ++ map view es) (sym none) ∙ c.loop-name.invariant
    ∙ ap (map view) c.into_iter-name-iterator.ensures.into_iter_gives.0 in
    let rows = c.args.copied.now.rows in
    subst (λ bs. AreBranches rows c.args.out.now (length rows) bs) (sym same) c.in_ok-members.ensures.members
