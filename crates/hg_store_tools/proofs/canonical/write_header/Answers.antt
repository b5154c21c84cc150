use Rattle.std.proofs.Common.{◌≡◌, ◌∙◌, ◌++◌, ◌+◌, ap, sym, refl, arith, length, drop, List, ℕ}
use Rattle.hg_params.specs.Writing.{cased, header_bytes}
use Rattle.hg_store_tools.proofs.Plain.{cased_alone, cased_small, header_written}
use Rattle.hg_store_tools.proofs.canonical.write_header.Goals as goal

pub split_at-requires : goal.split_at-requires
split_at-requires g c =
    let header : c.as_slice.result.now ≡ header_bytes (cased c.args.kind.now) c.args.id c.args.params.now =
    c.as_slice.ensures.value ∙ c.in_ok-write_head.ensures.ok
    ∙ ap (λ (l : List ℕ). l ++ header_bytes (cased c.args.kind.now) c.args.id c.args.params.now) c.new-cased.ensures.items in
    let alone = cased_alone c.args.kind.now c.args.id c.args.params.now in
    omega (arith, alone.some, ap length header)

pub put_size-requires : goal.put_size-requires
put_size-requires g c =
    let header : c.as_slice.result.now ≡ header_bytes (cased c.args.kind.now) c.args.id c.args.params.now =
    c.as_slice.ensures.value ∙ c.in_ok-write_head.ensures.ok
    ∙ ap (λ (l : List ℕ). l ++ header_bytes (cased c.args.kind.now) c.args.id c.args.params.now) c.new-cased.ensures.items in
    let small = cased_small c.args.kind.now c.args.id c.args.params.now c.ranges.id.fits c.requires in
    omega (arith, small, ap length header, c.as_slice.ensures.len, c.len.ensures)

pub returns : goal.returns
returns g c =
    let header : c.as_slice.result.now ≡ header_bytes (cased c.args.kind.now) c.args.id c.args.params.now =
    c.as_slice.ensures.value ∙ c.in_ok-write_head.ensures.ok
    ∙ ap (λ (l : List ℕ). l ++ header_bytes (cased c.args.kind.now) c.args.id c.args.params.now) c.new-cased.ensures.items in
    header_written c.put_size.new.out.items c.push.new.self.items c.extend_from_slice.new.self.items
    c.extend_from_slice-2.new.self.items c.args.out.now.items c.args.kind.now
    (header_bytes c.args.kind.now c.args.id c.args.params.now)
    (header_bytes (cased c.args.kind.now) c.args.id c.args.params.now) _ c.len.result _
    c.in_ok-put_size.ensures c.in_ok-push.ensures.items c.in_ok-extend_from_slice.ensures.items
    c.in_ok-extend_from_slice-2.ensures.items
    (c.len.ensures ∙ sym c.as_slice.ensures.len ∙ ap length header) refl
    (c.split_at.ensures.back ∙ ap (drop (1 + length c.args.kind.now)) header)
    (cased_alone c.args.kind.now c.args.id c.args.params.now)
