-- A file that was read, and then brought in order.
use Rattle.std.proofs.Common.{◌≡◌, ◌∙◌, ◌+◌, inl, inr, ℕ, List, [], ◌∷◌, length, ap, arith, sym, subst}
use Rattle.hg_store.specs.declared.device.DeviceError.{DeviceError}
use Rattle.hg_store.specs.declared.head.Head.{Head}
use Rattle.hg_store.specs.declared.head.Setup.{Setup}
use Rattle.hg_store.specs.declared.opening.RecoverFault.TheVariants.{Device}
use Rattle.hg_store.specs.declared.start.StoreFault.TheVariants.{Recover}
use Rattle.hg_store.specs.Calls.{Continue, Event, LeftSince, MayLeave, began, state_of}
use Rattle.hg_store.specs.Device.{Only}
use Rattle.hg_store.specs.Files.{StandsFor}
use Rattle.hg_store.specs.Entries.{Entry}
use Rattle.hg_store.specs.Openings.{IsFound, IsUnopened}

-- of a file that was just read a crash leaves what was read
only_read : (bytes : List ℕ) (before : List Event)
    → Only bytes (MayLeave (state_of (began bytes ∷ before)))
only_read bytes before left (inl same) = same
only_read bytes before left (inr same) = same

module _ (bytes : List ℕ) (before at_first : List Event) (read : at_first ≡ began bytes ∷ before) where
  pub only_first : Only (state_of at_first).seen (MayLeave (state_of at_first))
  only_first =
      subst (λ calls. Only (state_of calls).seen (MayLeave (state_of calls))) (sym read) (only_read bytes before)

  seen_is : (state_of at_first).seen ≡ bytes
  seen_is = ap (λ calls. (state_of calls).seen) read

  moment_is : length before + 1 ≡ length at_first
  moment_is = omega (arith, ap length read)

  -- a store that was read, and then brought in order
  pub found_is : (head : Head) (records : List Entry) (now : List Event)
      → StandsFor head records (state_of at_first).seen → Continue at_first now
      → ((left : List ℕ) → LeftSince now (length at_first) left → StandsFor head records left)
      → IsFound head records before now
  found_is head records now stands more each =
      record {
        bytes = bytes;
        read_first = subst (λ calls. Continue calls now) read more;
        stands = subst (StandsFor head records) seen_is stands;
        any_moment = λ left may. each left (subst (λ n. LeftSince now n left) moment_is may);
      }

  -- a store that was not brought in order to its end
  pub failed_is : (setup : Setup) (any : List ℕ) (now : List Event) (more : Continue at_first now)
      → ((its : Head) (records : List Entry) → StandsFor its records (state_of at_first).seen
      → (left : List ℕ) → LeftSince now (length at_first) left → StandsFor its records left)
      → (error : DeviceError) → IsUnopened (Recover (Device error)) setup any before now
  failed_is setup any now more each error = inr (
    bytes,
    record {
      read_first = subst (λ calls. Continue calls now) read more;
      any_moment = λ its records stands left may.
          each its records (subst (StandsFor its records) (sym seen_is) stands) left
          (subst (λ n. LeftSince now n left) moment_is may);
    },
  )
