use Rattle.std.proofs.Common.{◌≡◌, ◌==◌, ◌∙◌, ◌++◌, ap, sym, subst, List, ℕ, Option, Bor}
use Rattle.std.specs.List.{slice_split, before_first}
use Rattle.std.specs.Option.{option_map}
use Rattle.std.proofs.lemmas.List.{append-nil, map-append}
use Rattle.hg_wireproto.specs.Text.{behind_first}
use Rattle.hg_wireproto.proofs.Pieces.{pieces_of, texts, shorter, cut_more}
use Rattle.hg_wireproto.proofs.text.pieces.Goals as goal

pub returns : goal.returns
returns g c =
    let at = λ (rest : Option (Bor (List ℕ))). texts c.loop-rest.pieces.items
    ++ pieces_of (λ b. b == c.args.byte) (option_map (λ (t : Bor (List ℕ)). t.now) rest) in
    sym (append-nil (texts c.loop-rest.pieces.items)) ∙ sym (ap at c.in_default.is) ∙ c.loop-rest.invariant

pub loop-rest-smaller : goal.loop-rest-smaller
loop-rest-smaller g c =
    shorter (λ b. b == c.args.byte) _ _ c.in-Some.text.now
    (ap (option_map (λ (t : Bor (List ℕ)). t.now)) c.in-Some.is)
    (c.split_once.ensures.behind
    ∙ ap (λ (t : Bor (List ℕ)). behind_first (λ b. b == c.args.byte) t.now) c.in-Some.text-is)

pub loop-rest-preserved : goal.loop-rest-preserved
loop-rest-preserved g c =
    let test = λ (b : ℕ). b == c.args.byte in
    let left = λ (rest : Option (Bor (List ℕ))). option_map (λ (t : Bor (List ℕ)). t.now) rest in
    let before = c.split_once.ensures.before
    ∙ ap (λ (t : Bor (List ℕ)). before_first test t.now) c.in-Some.text-is in
    let behind = c.split_once.ensures.behind
    ∙ ap (λ (t : Bor (List ℕ)). behind_first test t.now) c.in-Some.text-is in
    let so = subst (λ (rest : Option (Bor (List ℕ))). texts c.loop-rest.pieces.items
    ++ pieces_of test (left rest) ≡ slice_split test c.args.text.now) c.in-Some.is c.loop-rest.invariant in
    ap (λ (ps : List (Bor (List ℕ))). texts ps ++ pieces_of test (left c.split_once.result.1))
    c.in_ok-push.ensures.items
    ∙ ap (λ (ts : List (List ℕ)). ts ++ pieces_of test (left c.split_once.result.1))
    (map-append (λ (t : Bor (List ℕ)). t.now) c.loop-rest.pieces.items _)
    ∙ cut_more test (slice_split test c.args.text.now) (texts c.loop-rest.pieces.items) c.in-Some.text.now
    c.split_once.result.0.now (left c.split_once.result.1) before behind so
