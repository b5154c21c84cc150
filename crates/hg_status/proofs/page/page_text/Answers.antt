use Rattle.std.proofs.Common.{refl, string_bytes, sym}
use Rattle.hg_status.specs.Page.{front_of}
use Rattle.hg_status.proofs.page.page_text.Goals as goal

pub returns-clause-shown : goal.returns-clause-shown
unfolding front_of
returns-clause-shown g c =
    record {
      heads = string_bytes c.put_heads.new.page.text;
      is_front = rw (
        c.in_ok-put_heads.ensures,
        c.in_ok-put_phases.ensures,
        c.in_ok-put_numbers.ensures,
        c.in_ok-put_head.ensures,
        c.in_ok-put.ensures,
        c.new-page.ensures,
      ) refl;
      rows = string_bytes c.put_pushes.new.page.text;
      has_pushes = rw c.as_slice.ensures at c.in_ok-put_pushes.ensures;
      has_end = rw (c.from_vec.ensures, c.into_bytes.ensures.value)
          (rw (sym c.into_text.ensures.text, c.in_ok-put_refusals.ensures) at c.in_ok-put_end.ensures);
    }
