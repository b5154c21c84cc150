use Rattle.std.proofs.Common.{◌≡◌, ◌∙◌, ◌++◌, [], ◌+◌, ◌*◌, ◌/◌, ◌<◌, ◌≤◌, List, ℕ, length, take, drop}
use Rattle.std.proofs.Common.{get_or, ap, sym, arith}
use Rattle.std.specs.List.{list_any}
use Rattle.std.proofs.lemmas.List.{append-nil, length-take}
use Rattle.hg_types.specs.declared.phase.Phase.TheVariants.{Draft}
use Rattle.hg_phases.specs.Standing.{is_draft_root, told, told_from}
use Rattle.hg_phases.proofs.Told.{told_none}
use Rattle.hg_phases.proofs.Passing.{piece_at, none_told, piece_told, rest_told}
use Rattle.hg_phases.proofs.roots.draft_roots.Goals as goal
use Rattle.hg_phases.proofs.roots.draft_roots.Goals.{then-has_root+in_ok-push_roots, else-has_root}

pub loop-place-init : goal.loop-place-init
loop-place-init g c = c.new-roots.ensures.items ∙ sym (told_none Draft 0)

pub push_roots-requires : goal.push_roots-requires
push_roots-requires g c =
    let rows = c.args.rows.now in
    let k = length rows / 64 in
    let i = c.loop-place.place in
    let low : i < k = omega (arith, c.loop-place-test.true, c.as_chunks.ensures.front_len) in
    let piece : c.as_slice.result.now ≡ take 64 (drop (i * 64) rows) =
    c.as_slice.ensures ∙ ap (λ pieces. get_or pieces i []) c.as_chunks.ensures.front
    ∙ piece_at 64 k i rows low in
    let size : length c.as_slice.result.now ≤ 64 =
    omega (arith, ap length piece, length-take 64 (drop (i * 64) rows)) in
    let room : (i + 1) * 64 ≤ length rows = omega arith in
    omega (arith, size, room, c.requires)

pub loop-place-preserved : goal.loop-place-preserved
loop-place-preserved g c =
    let rows = c.args.rows.now in
    let k = length rows / 64 in
    let i = c.loop-place.place in
    let low : i < k = omega (arith, c.loop-place-test.true, c.as_chunks.ensures.front_len) in
    let room : (i + 1) * 64 ≤ length rows = omega arith in
    let piece : get_or c.as_chunks.result.0.now i [] ≡ take 64 (drop (i * 64) rows) =
    ap (λ pieces. get_or pieces i []) c.as_chunks.ensures.front ∙ piece_at 64 k i rows low in
    let was = c.loop-place.roots.items in
    let more = piece_told rows i was c.if-has_root.roots.items room c.loop-place.invariant in
    elim c.if-has_root.branch [
      | then-has_root+in_ok-push_roots w ↦ more
          (ap (λ roots. roots.items) w.roots-is ∙ w.in_ok-push_roots.ensures
          ∙ ap (λ xs. was ++ told_from Draft (i * 64) xs) (w.as_slice.ensures ∙ piece))
      | else-has_root w ↦ more
          (ap (λ roots. roots.items) w.roots-is ∙ sym (append-nil was)
          ∙ ap (λ (ks : List ℕ). was ++ ks) (sym (none_told (i * 64) (take 64 (drop (i * 64) rows))
          (ap (list_any is_draft_root) (sym piece) ∙ sym c.has_root.ensures ∙ w.if-has_root.false))))
    ]

pub returns : goal.returns
returns g c =
    let rows = c.args.rows.now in
    let front = c.as_chunks.ensures.front_len in
    let was = c.loop-place.roots.items in
    let at = length c.as_chunks.result.0.now * 64 in
    let place : c.loop-place.place * 64 ≡ at =
    omega (arith, c.loop-place-test.false, c.loop-place.auto.place-end) in
    let whole : length rows / 64 * 64 ≡ at = omega (arith, front) in
    rest_told rows at was c.push_roots-2.new.roots.items (omega (arith, front))
    (c.loop-place.invariant ∙ ap (λ (n : ℕ). told Draft (take n rows)) place)
    (c.in_ok-push_roots-2.ensures
    ∙ ap (λ xs. was ++ told_from Draft at xs) (c.as_chunks.ensures.back ∙ ap (λ (n : ℕ). drop n rows) whole))
