use Rattle.std.proofs.Common.{◌≡◌, ◌∙◌, ap, refl, Bor, Some, None, Option, Bool}
use Rattle.std.specs.Option.{option_copied, is_some}
use Rattle.http_header.specs.declared.value.HeaderValue.{HeaderValue}
use Rattle.hg_http.proofs.request.has.Goals as goal

pub returns : goal.returns
returns c = c.is_some.ensures ∙ (each c.get.result ∙ ap is_some c.get.ensures.value)
  where
    each : {T : Type 0} (o : Option (Bor T)) → is_some o ≡ is_some (option_copied o)
    each (Some x) = refl
    each None = refl
