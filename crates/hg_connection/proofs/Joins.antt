-- Lemmas for callers: bundles of a connection, and one more.
use Rattle.std.proofs.Common.{false, true≢false, ℕ, ◌≡◌, ◌≤◌, ◌+◌, ◌*◌, List, [], ◌∷◌, ◌++◌}
use Rattle.std.proofs.Common.{refl, sym, ◌∙◌, ap, subst, arith, Option, Some, None}
use Rattle.std.proofs.lemmas.List.{append-nil, flat_map_more}
use Rattle.std.proofs.Math.Nat.{mul-le-mul_right}
use Rattle.std.specs.Prelude.{is_some}
use Rattle.hg_push.specs.Reply.{reply_of}
use Rattle.hg_connection.specs.Devices.{WriteAnswer}
use Rattle.hg_connection.specs.declared.sending.Sending.{Sending}
use Rattle.hg_connection.specs.declared.sending.Sending.TheVariants.{Whole as sent_whole, Broken, NoMemory}
use Rattle.hg_connection.specs.Sent.{IsSent}
use Rattle.hg_connection.specs.declared.bundle_end.BundleEnd.{BundleEnd}
use Rattle.hg_connection.specs.declared.bundle_end.BundleEnd.TheVariants.{Whole, Fault, InputEnded, ReadFailed}
use Rattle.hg_connection.specs.Receiving.{KeepsWaiting}
use Rattle.hg_connection.specs.Connections.{ExchangeOf, AreChained, AreAllWhole}
use Rattle.hg_connection.specs.Connections.{bytes_of, reads_of, uses_of, replies_of, gone_of}

-- the bytes that were read after the last end mark
abbrev pub last_rest : {A S H : Type 0} → List ℕ → List (ExchangeOf A S H) → List ℕ
last_rest waited [] = waited
last_rest waited (x ∷ xs) = last_rest x.rest xs

module _ {A S H : Type 0} (Is : H → List ℕ → ExchangeOf A S H → Type 0) where
  pub chain_more : (before : H) (waited : List ℕ) (xs : List (ExchangeOf A S H)) (now : H)
      (x : ExchangeOf A S H) → AreChained Is before waited xs now → Is now (last_rest waited xs) x
      → AreChained Is before waited (xs ++ x ∷ []) x.after
  chain_more before waited [] now x c is = (subst (λ (h : H). Is h waited x) c is, refl)
  chain_more before waited (y ∷ ys) now x c is = (c.0, chain_more y.after y.rest ys now x c.1 is)

pub whole_more : {A S H : Type 0} (IsSent : S → Type 0) (xs : List (ExchangeOf A S H)) (x : ExchangeOf A S H)
    → AreAllWhole IsSent xs → x.ending ≡ Whole → IsSent x.sending → AreAllWhole IsSent (xs ++ x ∷ [])
whole_more IsSent [] x all is went = (is, went, tt)
whole_more IsSent (y ∷ ys) x all is went = (all.0, all.1, whole_more IsSent ys x all.2 is went)

pub last_more : {A S H : Type 0} (waited : List ℕ) (xs : List (ExchangeOf A S H)) (x : ExchangeOf A S H)
    → last_rest waited (xs ++ x ∷ []) ≡ x.rest
last_more waited [] x = refl
last_more waited (y ∷ ys) x = last_more y.rest ys x

module _ {A S H : Type 0} (xs : List (ExchangeOf A S H)) (x : ExchangeOf A S H) where
  pub bytes_more : bytes_of xs ++ x.consumed ≡ bytes_of (xs ++ x ∷ [])
  bytes_more = flat_map_more (λ (y : ExchangeOf A S H). y.consumed) [] xs x

  pub reads_more : reads_of xs ++ x.reads ≡ reads_of (xs ++ x ∷ [])
  reads_more = flat_map_more (λ (y : ExchangeOf A S H). y.reads) [] xs x

  pub uses_more : uses_of xs ++ x.uses ≡ uses_of (xs ++ x ∷ [])
  uses_more = flat_map_more (λ (y : ExchangeOf A S H). y.uses) [] xs x

  pub gone_more : gone_of xs ++ x.gone ≡ gone_of (xs ++ x ∷ [])
  gone_more = flat_map_more (λ (y : ExchangeOf A S H). y.gone) [] xs x

  pub replies_more : replies_of xs ++ reply_of x.how ≡ replies_of (xs ++ x ∷ [])
  replies_more = flat_map_more (λ (y : ExchangeOf A S H). reply_of y.how) [] xs x

-- what waits after a bundle that was read to its end mark
pub rest_waits : (ending : BundleEnd) (rest waiting : List ℕ) → ending ≡ Whole → KeepsWaiting ending rest waiting
    → waiting ≡ rest
rest_waits Whole rest waiting is keeps = keeps
rest_waits (Fault fault) rest waiting is keeps = absurd cc
rest_waits InputEnded rest waiting is keeps = absurd cc
rest_waits ReadFailed rest waiting is keeps = absurd cc

-- what went out of a reply that was sent whole
pub gone_whole : (sending : Sending) (gone : List ℕ) (uses : List WriteAnswer) (reply : List ℕ)
    → sending ≡ sent_whole → IsSent sending gone uses reply → gone ≡ reply
gone_whole sent_whole gone uses reply is s =
    sym (s.reply_is ∙ ap (λ (l : List ℕ). gone ++ l) s.ends.0 ∙ append-nil gone)
gone_whole Broken gone uses reply is s = absurd cc
gone_whole NoMemory gone uses reply is s = absurd cc

pub none_of : {X : Type 0} (o : Option X) → is_some o ≡ false → o ≡ None
none_of None e = refl
none_of (Some x) e = absurd (true≢false e)

pub mul_more : (n s : ℕ) → (n + 1) * s ≡ n * s + s
mul_more n s = grind (arith)

pub within : (n m s : ℕ) → n ≤ m → n * s ≤ m * s
within n m s le = mul-le-mul_right s le
