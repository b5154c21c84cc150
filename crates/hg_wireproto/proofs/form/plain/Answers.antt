use Rattle.std.proofs.Common.{ap, ◌∙◌, ◌++◌, List, ℕ}
use Rattle.percent_encoding.specs.Percent.{percent_decode}
use Rattle.percent_encoding.specs.Iter.{decoded_bytes}
use Rattle.hg_wireproto.specs.Form.{plain_of}
use Rattle.hg_wireproto.proofs.form.plain.Goals as goal

pub returns : goal.returns
unfolding plain_of
returns g c =
    let read = decoded_bytes c.percent_decode.result in
    c.from_vec.ensures ∙ c.in_ok-append_to.ensures.ok
    ∙ ap (λ (front : List ℕ). front ++ read) c.new-bytes.ensures.items
    ∙ c.percent_decode.ensures.bytes
    ∙ ap percent_decode (c.as_slice.ensures.value ∙ c.in_ok-spaced.ensures)
