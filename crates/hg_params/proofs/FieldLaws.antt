-- What is read is spelled so, and what is spelled so is read.
use Rattle.std.proofs.Common.{◌≡◌, ℕ, suc, ◌+◌, ◌*◌, ◌^◌, ◌<◌, ◌≤◌, Bool, true, false, cond, ltb, List, []}
use Rattle.std.proofs.Common.{◌∷◌, ◌++◌, length, take, drop, Result, Ok, Err, refl, sym, ap, subst, ◌∙◌}
use Rattle.std.proofs.Common.{append_assoc, arith, inl, inr}
use Rattle.std.specs.List.{sum, AllByRecursion, flat_map}
use Rattle.std.specs.Int.{w32, from_be_bytes, to_be_bytes}
use Rattle.std.proofs.lemmas.Bool.{cases_lt, ltb-false, le-ltb}
use Rattle.std.proofs.lemmas.List.{take_at, drop_at, take-append-drop, length-append, length-take}
use Rattle.std.proofs.lemmas.List.{get_or-drop, get_or-take, get_or_past}
use Rattle.std.proofs.lemmas.List.Concat.{flat_map-append}
use Rattle.std.proofs.lemmas.Nat.{be_bytes_4, from_be_bytes-to_be_bytes_4}
use Rattle.hg_params.specs.declared.fault.ParamFault.{ParamFault}
use Rattle.hg_params.specs.declared.fault.ParamFault.TheVariants.{Short}
use Rattle.hg_params.specs.Header.{KeyValue, Fields, HeaderFits, FitsSizes, all_params, spelling, param_sizes}
use Rattle.hg_params.specs.Header.{param_data}
use Rattle.hg_params.specs.code.Reading.{◌>>=◌, bytes_at, counted_at, number_at, pair_at}
use Rattle.hg_params.specs.code.Reading.{blocks_at, front_at, params_in, Block, Front, fields_in}
use Rattle.hg_params.proofs.Cutting.{IsBytes, Cuts, cuts, params_fit, params_again, length_sizes, sum_sizes}

IsBytes-drop : (n : ℕ) (bytes : List ℕ) → IsBytes bytes → IsBytes (drop n bytes)
IsBytes-drop n bytes h i = rw get_or-drop (h (n + i))

IsBytes-take : (n : ℕ) (bytes : List ℕ) → IsBytes bytes → IsBytes (take n bytes)
IsBytes-take n bytes h i =
    elim (cases_lt i n) [
      | inl lt ↦ rw (get_or-take n bytes i 0 lt) (h i)
      | inr le ↦ rw (get_or_past (take n bytes) i 0 (omega (arith, length-take n bytes))) (omega arith)
    ]

bind_ok : {A B : Type 0} (r : Result A ParamFault) (f : A → Result B ParamFault) (y : B) → (r >>= f) ≡ Ok y
    → (x : A) × (r ≡ Ok x) × (f x ≡ Ok y)
bind_ok (Ok x) f y e = (x, refl, e)
bind_ok (Err d) f y e = absurd cc

guard_ok : {A : Type 0} (b : Bool) (d : ParamFault) (x y : A) → cond b (Err d) (Ok x) ≡ Ok y → (b ≡ false)
    × (x ≡ y)
guard_ok true d x y e = absurd cc
guard_ok false d x y e = (refl, cc)

ok_is : {A : Type 0} (x y : A) → (let r : Result A ParamFault = Ok x in r) ≡ Ok y → x ≡ y
ok_is x y e = cc

-- what a reader took from the front
record TakesField (bytes text rest : List ℕ) : Type 0 where
  parts : bytes ≡ text ++ rest
  rest_fits : IsBytes rest

Takes-then : (a x b y c : List ℕ) → TakesField a x b → TakesField b y c → TakesField a (x ++ y) c
Takes-then a x b y c p q =
    record {
      parts = p.parts ∙ ap (λ (t : List ℕ). x ++ t) q.parts
          ∙ sym (append_assoc x y c);
      rest_fits = q.rest_fits;
    }

record TakesBytes (n : ℕ) (bytes text rest : List ℕ) : Type 0 where
  takes : TakesField bytes text rest
  size : length text ≡ n
  fits : IsBytes text

bytes_take : (n : ℕ) (bytes text rest : List ℕ) → IsBytes bytes → bytes_at n bytes ≡ Ok (text, rest)
    → TakesBytes n bytes text rest
unfolding bytes_at
bytes_take n bytes text rest fits e =
    let g = guard_ok (ltb (length bytes) n) Short (take n bytes, drop n bytes) (text, rest) e in
    let long : n ≤ length bytes = ltb-false _ _ g.0 in
    let text_is : take n bytes ≡ text = ap (λ (p : List ℕ × List ℕ). p.0) g.1 in
    let rest_is : drop n bytes ≡ rest = ap (λ (p : List ℕ × List ℕ). p.1) g.1 in
    record {
      takes = record {
        parts = rw (← text_is, ← rest_is) (sym (take-append-drop n bytes));
        rest_fits = rw (← rest_is) (IsBytes-drop n bytes fits);
      };
      size = rw (← text_is) (omega (arith, length-take n bytes));
      fits = rw (← text_is) (IsBytes-take n bytes fits);
    }

bytes_again : (n : ℕ) (text rest : List ℕ) → length text ≡ n → bytes_at n (text ++ rest) ≡ Ok (text, rest)
unfolding bytes_at
bytes_again n text rest size =
    let long : ltb (length (text ++ rest)) n ≡ false = le-ltb _ _ (omega (arith, length-append text rest)) in
    rw (long, take_at text rest n size, drop_at text rest n size) refl

counted_take : (bytes text rest : List ℕ) → IsBytes bytes → counted_at bytes ≡ Ok (text, rest)
    → TakesField bytes (length text ∷ text) rest × (length text < 256)
unfolding counted_at
counted_take [] text rest fits e = absurd cc
counted_take (n ∷ bytes) text rest fits e =
    let t = bytes_take n bytes text rest (λ i. fits (suc i)) e in
    let small : n < 256 = fits 0 in (
      record { parts = rw t.size (ap (λ (xs : List ℕ). n ∷ xs) t.takes.parts); rest_fits = t.takes.rest_fits },
      rw t.size small,
    )

counted_again : (text rest : List ℕ) → counted_at ((length text ∷ text) ++ rest) ≡ Ok (text, rest)
unfolding counted_at
counted_again text rest = bytes_again (length text) text rest refl

number_take : (bytes : List ℕ) (n : ℕ) (rest : List ℕ) → IsBytes bytes → number_at bytes ≡ Ok (n, rest)
    → TakesField bytes (to_be_bytes w32 n) rest × (n < 2 ^ 32)
unfolding number_at
number_take bytes n rest fits e =
    let a = bind_ok (bytes_at 4 bytes) (λ x. Ok (from_be_bytes w32 x.0, x.1)) (n, rest) e in
    let t = bytes_take 4 bytes a.0.0 a.0.1 fits a.1 in
    let same = ok_is (from_be_bytes w32 a.0.0, a.0.1) (n, rest) a.2 in
    let n_is : from_be_bytes w32 a.0.0 ≡ n = ap (λ (p : ℕ × List ℕ). p.0) same in
    let rest_is : a.0.1 ≡ rest = ap (λ (p : ℕ × List ℕ). p.1) same in
    let front : to_be_bytes w32 n ≡ a.0.0 = be_bytes_4 a.0.0 n t.size t.fits (sym n_is) in
    let parts : bytes ≡ to_be_bytes w32 n ++ rest = t.takes.parts
    ∙ ap (λ (x : List ℕ). x ++ a.0.1) (sym front) ∙ ap (λ (x : List ℕ). to_be_bytes w32 n ++ x) rest_is in (
      record { parts = parts; rest_fits = rw (← rest_is) t.takes.rest_fits },
      rw (← n_is) (omega (arith, t.fits 0, t.fits 1, t.fits 2, t.fits 3)),
    )

number_front : (front rest : List ℕ) → length front ≡ 4
    → number_at (front ++ rest) ≡ Ok (from_be_bytes w32 front, rest)
unfolding number_at
number_front front rest size = rw (bytes_again 4 front rest size) refl

number_again : (n : ℕ) (rest : List ℕ) → n < 2 ^ 32 → number_at (to_be_bytes w32 n ++ rest) ≡ Ok (n, rest)
number_again n rest lt = number_front (to_be_bytes w32 n) rest refl
    ∙ ap (λ (k : ℕ). Ok (k, rest)) (from_be_bytes-to_be_bytes_4 n lt)

pair_take : (bytes : List ℕ) (a b : ℕ) (rest : List ℕ) → IsBytes bytes → pair_at bytes ≡ Ok ((a, b), rest)
    → TakesField bytes (a ∷ b ∷ []) rest × (a < 256) × (b < 256)
unfolding pair_at
pair_take [] a b rest fits e = absurd cc
pair_take (x ∷ []) a b rest fits e = absurd cc
pair_take (x ∷ y ∷ bytes) a b rest fits e =
    let same = ok_is ((x, y), bytes) ((a, b), rest) e in
    let first : x < 256 = fits 0 in
    let second : y < 256 = fits 1 in
    let tail : IsBytes bytes = λ i. fits (suc (suc i)) in
    subst (λ (p : (ℕ × ℕ) × List ℕ). TakesField (x ∷ y ∷ bytes) (p.0.0 ∷ p.0.1 ∷ []) p.1 × (p.0.0 < 256)
    × (p.0.1 < 256)) same (record { parts = refl; rest_fits = tail }, first, second)

-- the blocks as they lie in the bytes
abbrev block_sizes : Block × Block → List ℕ
block_sizes b = b.0.sizes ++ b.1.sizes

abbrev block_texts : Block × Block → List ℕ
block_texts b = b.0.texts ++ b.1.texts

-- a block of so many parameters
pub record IsBlock (count : ℕ) (b : Block) : Type 0 where
  pub even : length b.sizes ≡ 2 * count
  pub full : sum b.sizes ≡ length b.texts
  pub fits : IsBytes b.sizes

block_read : (count : ℕ) (sizes texts : List ℕ) → length sizes ≡ 2 * count → length texts ≡ sum sizes
    → IsBytes sizes → IsBlock count (record { sizes = sizes; texts = texts })
block_read count sizes texts even full fits = record { even = even; full = sym full; fits = fits }

record TakesBlocks (counts : ℕ × ℕ) (bytes : List ℕ) (b : Block × Block) (rest : List ℕ) : Type 0 where
  takes : TakesField bytes (block_sizes b ++ block_texts b) rest
  first : IsBlock counts.0 b.0
  second : IsBlock counts.1 b.1

blocks_take : (counts : ℕ × ℕ) (bytes : List ℕ) (b : Block × Block) (rest : List ℕ) → IsBytes bytes
    → blocks_at counts bytes ≡ Ok (b, rest) → TakesBlocks counts bytes b rest
unfolding blocks_at
blocks_take counts bytes b rest fits e =
    let r1 = bind_ok (bytes_at (2 * counts.0) bytes) (λ first. bytes_at (2 * counts.1) first.1
    >>= λ second. bytes_at (sum first.0) second.1 >>= λ third. bytes_at (sum second.0) third.1
    >>= λ fourth. Ok (
      (
        record { sizes = first.0; texts = third.0 },
        record { sizes = second.0; texts = fourth.0 },
      ),
      fourth.1,
    )) (b, rest) e in
    let r2 = bind_ok (bytes_at (2 * counts.1) r1.0.1) (λ second. bytes_at (sum r1.0.0) second.1
    >>= λ third. bytes_at (sum second.0) third.1
    >>= λ fourth. Ok (
      (
        record { sizes = r1.0.0; texts = third.0 },
        record { sizes = second.0; texts = fourth.0 },
      ),
      fourth.1,
    )) (b, rest) r1.2 in
    let r3 = bind_ok (bytes_at (sum r1.0.0) r2.0.1) (λ third. bytes_at (sum r2.0.0) third.1
    >>= λ fourth. Ok (
      (
        record { sizes = r1.0.0; texts = third.0 },
        record { sizes = r2.0.0; texts = fourth.0 },
      ),
      fourth.1,
    )) (b, rest) r2.2 in
    let r4 = bind_ok (bytes_at (sum r2.0.0) r3.0.1)
    (λ fourth. Ok (
      (
        record { sizes = r1.0.0; texts = r3.0.0 },
        record { sizes = r2.0.0; texts = fourth.0 },
      ),
      fourth.1,
    )) (b, rest) r3.2 in
    let t1 = bytes_take (2 * counts.0) bytes r1.0.0 r1.0.1 fits r1.1 in
    let t2 = bytes_take (2 * counts.1) r1.0.1 r2.0.0 r2.0.1 t1.takes.rest_fits r2.1 in
    let t3 = bytes_take (sum r1.0.0) r2.0.1 r3.0.0 r3.0.1 t2.takes.rest_fits r3.1 in
    let t4 = bytes_take (sum r2.0.0) r3.0.1 r4.0.0 r4.0.1 t3.takes.rest_fits r4.1 in
    let sizes = Takes-then bytes r1.0.0 r1.0.1 r2.0.0 r2.0.1 t1.takes t2.takes in
    let texts = Takes-then r2.0.1 r3.0.0 r3.0.1 r4.0.0 r4.0.1 t3.takes t4.takes in
    let all = Takes-then bytes (r1.0.0 ++ r2.0.0) r2.0.1 (r3.0.0 ++ r4.0.0) r4.0.1 sizes texts in
    let one : Block = record { sizes = r1.0.0; texts = r3.0.0 } in
    let two : Block = record { sizes = r2.0.0; texts = r4.0.0 } in
    let first = block_read counts.0 r1.0.0 r3.0.0 t1.size t3.size t1.fits in
    let second = block_read counts.1 r2.0.0 r4.0.0 t2.size t4.size t2.fits in
    let made : TakesBlocks counts bytes (one, two) r4.0.1 = record {
      takes = all;
      first = first;
      second = second;
    } in
    subst (λ (y : (Block × Block) × List ℕ). TakesBlocks counts bytes y.0 y.1) {x = ((one, two), r4.0.1)}
    {y = (b, rest)} (ok_is ((one, two), r4.0.1) (b, rest) r4.2) made

-- the block that parameters make
abbrev pub block_of : List KeyValue → Block
block_of ps = record { sizes = flat_map param_sizes ps; texts = flat_map param_data ps }

blocks_again : (ms ads : List KeyValue) (rest : List ℕ)
    → blocks_at (length ms, length ads)
    (((flat_map param_sizes ms ++ flat_map param_sizes ads)
    ++ (flat_map param_data ms ++ flat_map param_data ads)) ++ rest) ≡ Ok
    ((block_of ms, block_of ads), rest)
unfolding blocks_at
blocks_again ms ads rest =
    let s1 : List ℕ = flat_map param_sizes ms in
    let s2 : List ℕ = flat_map param_sizes ads in
    let d1 : List ℕ = flat_map param_data ms in
    let d2 : List ℕ = flat_map param_data ads in
    let grouped : ((s1 ++ s2) ++ (d1 ++ d2)) ++ rest ≡ s1 ++ (s2 ++ (d1 ++ (d2 ++ rest))) =
    append_assoc (s1 ++ s2) (d1 ++ d2) rest ∙ append_assoc s1 s2 ((d1 ++ d2) ++ rest)
    ∙ ap (λ (x : List ℕ). s1 ++ (s2 ++ x)) (append_assoc d1 d2 rest) in
    let e1 = bytes_again (2 * length ms) s1 (s2 ++ (d1 ++ (d2 ++ rest))) (length_sizes ms) in
    let e2 = bytes_again (2 * length ads) s2 (d1 ++ (d2 ++ rest)) (length_sizes ads) in
    let e3 = bytes_again (sum s1) d1 (d2 ++ rest) (sym (sum_sizes ms)) in
    let e4 = bytes_again (sum s2) d2 rest (sym (sum_sizes ads)) in
    ap (blocks_at (length ms, length ads)) grouped ∙ rw (e1, e2, e3, e4) refl

-- the fields as they lie in a header
abbrev pub front_of : Fields → Front
front_of f = record {
  kind = f.kind;
  id = f.id;
  mandatory = block_of f.mandatory;
  advisory = block_of f.advisory;
}

-- the fields that were read fit, the parameters can be cut, and the bytes are their spelling and the rest
pub record ReadsFields (bytes : List ℕ) (front : Front) (rest : List ℕ) : Type 0 where
  pub fits : HeaderFits (fields_in front)
  pub spelled : bytes ≡ spelling (fields_in front) ++ rest
  pub mandatory_full : sum front.mandatory.sizes ≡ length front.mandatory.texts
  pub advisory_full : sum front.advisory.sizes ≡ length front.advisory.texts

joined_recursion : (P : KeyValue → Type 0) (xs ys : List KeyValue) → AllByRecursion P xs → AllByRecursion P ys
    → AllByRecursion P (xs ++ ys)
joined_recursion P [] ys h k = k
joined_recursion P (x ∷ xs) ys h k = (h.0, joined_recursion P xs ys h.1 k)

spelled_block : (count : ℕ) (b : Block) → IsBlock count b → Cuts count b.sizes b.texts
spelled_block count b is = cuts count b.sizes b.texts is.even is.full

fields_read : (bytes kind : List ℕ) (id m a : ℕ) (b : Block × Block) (rest : List ℕ)
    → bytes ≡ ((length kind ∷ kind)
    ++ (to_be_bytes w32 id ++ ((m ∷ a ∷ []) ++ (block_sizes b ++ block_texts b)))) ++ rest
    → length kind < 256 → id < 2 ^ 32 → m < 256 → a < 256 → IsBlock m b.0 → IsBlock a b.1
    → ReadsFields bytes (record { kind = kind; id = id; mandatory = b.0; advisory = b.1 }) rest
unfolding spelling
fields_read bytes kind id m a b rest parts kind_fits id_fits m_fits a_fits first second =
    let c1 = spelled_block m b.0 first in
    let c2 = spelled_block a b.1 second in
    let ms = params_in b.0.sizes b.0.texts in
    let ads = params_in b.1.sizes b.1.texts in
    let sizes : block_sizes b ≡ flat_map param_sizes (ms ++ ads) = ap (λ (x : List ℕ). x ++ b.1.sizes)
    (sym c1.sizes_are) ∙ ap (λ (x : List ℕ). flat_map param_sizes ms ++ x) (sym c2.sizes_are)
    ∙ sym (flat_map-append param_sizes ms ads) in
    let texts : block_texts b ≡ flat_map param_data (ms ++ ads) = ap (λ (x : List ℕ). x ++ b.1.texts)
    (sym c1.texts_are) ∙ ap (λ (x : List ℕ). flat_map param_data ms ++ x) (sym c2.texts_are)
    ∙ sym (flat_map-append param_data ms ads) in
    let counts : (m ∷ a ∷ []) ≡ (length ms ∷ length ads ∷ []) = ap (λ (n : ℕ). n ∷ a ∷ []) (sym c1.number)
    ∙ ap (λ (n : ℕ). length ms ∷ n ∷ []) (sym c2.number) in
    record {
      fits = record {
        kind = kind_fits;
        id = id_fits;
        mandatory = rw c1.number m_fits;
        advisory = rw c2.number a_fits;
        params = joined_recursion FitsSizes ms ads (params_fit b.0.sizes b.0.texts first.fits)
            (params_fit b.1.sizes b.1.texts second.fits);
      };
      spelled =
          parts
          ∙ ap (λ (x : List ℕ). ((length kind ∷ kind)
          ++ (to_be_bytes w32 id ++ (x ++ (block_sizes b ++ block_texts b)))) ++ rest) counts
          ∙ ap (λ (x : List ℕ). ((length kind ∷ kind)
          ++ (to_be_bytes w32 id ++ ((length ms ∷ length ads ∷ []) ++ (x ++ block_texts b))))
          ++ rest) sizes
          ∙ ap (λ (x : List ℕ). ((length kind ∷ kind)
          ++ (to_be_bytes w32 id ++ ((length ms ∷ length ads ∷ [])
          ++ (flat_map param_sizes (ms ++ ads) ++ x)))) ++ rest) texts;
      mandatory_full = first.full;
      advisory_full = second.full;
    }

pub front_take : (bytes : List ℕ) (front : Front) (rest : List ℕ) → IsBytes bytes
    → front_at bytes ≡ Ok (front, rest) → ReadsFields bytes front rest
unfolding front_at
front_take bytes front rest fits e =
    let r1 = bind_ok (counted_at bytes) (λ kind. number_at kind.1 >>= λ id. pair_at id.1
    >>= λ counts. blocks_at counts.0 counts.1
    >>= λ blocks. Ok (
      record {
        kind = kind.0;
        id = id.0;
        mandatory = blocks.0.0;
        advisory = blocks.0.1;
      },
      blocks.1,
    )) (front, rest) e in
    let r2 = bind_ok (number_at r1.0.1) (λ id. pair_at id.1 >>= λ counts. blocks_at counts.0 counts.1
    >>= λ blocks. Ok (
      record {
        kind = r1.0.0;
        id = id.0;
        mandatory = blocks.0.0;
        advisory = blocks.0.1;
      },
      blocks.1,
    )) (front, rest) r1.2 in
    let r3 = bind_ok (pair_at r2.0.1) (λ counts. blocks_at counts.0 counts.1
    >>= λ blocks. Ok (
      record {
        kind = r1.0.0;
        id = r2.0.0;
        mandatory = blocks.0.0;
        advisory = blocks.0.1;
      },
      blocks.1,
    )) (front, rest) r2.2 in
    let r4 = bind_ok (blocks_at r3.0.0 r3.0.1)
    (λ blocks. Ok (
      record { kind = r1.0.0; id = r2.0.0; mandatory = blocks.0.0; advisory = blocks.0.1 },
      blocks.1,
    )) (front, rest) r3.2 in
    let t1 = counted_take bytes r1.0.0 r1.0.1 fits r1.1 in
    let t2 = number_take r1.0.1 r2.0.0 r2.0.1 t1.0.rest_fits r2.1 in
    let t3 = pair_take r2.0.1 r3.0.0.0 r3.0.0.1 r3.0.1 t2.0.rest_fits r3.1 in
    let t4 = blocks_take r3.0.0 r3.0.1 r4.0.0 r4.0.1 t3.0.rest_fits r4.1 in
    let b : Block × Block = r4.0.0 in
    let body : List ℕ = block_sizes b ++ block_texts b in
    let counts : List ℕ = r3.0.0.0 ∷ r3.0.0.1 ∷ [] in
    let e34 = Takes-then r2.0.1 counts r3.0.1 body r4.0.1 t3.0 t4.takes in
    let e24 = Takes-then r1.0.1 (to_be_bytes w32 r2.0.0) r2.0.1 (counts ++ body) r4.0.1 t2.0 e34 in
    let e14 = Takes-then bytes (length r1.0.0 ∷ r1.0.0) r1.0.1 (to_be_bytes w32 r2.0.0
    ++ (counts ++ body)) r4.0.1 t1.0 e24 in
    let made : Front = record { kind = r1.0.0; id = r2.0.0; mandatory = b.0; advisory = b.1 } in
    let read : ReadsFields bytes made r4.0.1 = fields_read bytes r1.0.0 r2.0.0 r3.0.0.0 r3.0.0.1 b r4.0.1
    e14.parts t1.1 t2.1 t3.1 t3.2 t4.first t4.second in
    subst (λ (y : Front × List ℕ). ReadsFields bytes y.0 y.1) {x = (made, r4.0.1)} {y = (front, rest)}
    (ok_is (made, r4.0.1) (front, rest) r4.2) read

regrouped : (a b c d rest : List ℕ) → (a ++ (b ++ (c ++ d))) ++ rest ≡ a ++ (b ++ (c ++ (d ++ rest)))
regrouped a b c d rest =
    append_assoc a (b ++ (c ++ d)) rest ∙ ap (λ (x : List ℕ). a ++ x) (append_assoc b (c ++ d) rest)
    ∙ ap (λ (x : List ℕ). a ++ (b ++ x)) (append_assoc c d rest)

pub front_again : (f : Fields) (rest : List ℕ) → HeaderFits f
    → front_at (spelling f ++ rest) ≡ Ok (front_of f, rest)
unfolding front_at pair_at spelling
front_again f rest fits =
    let counts : List ℕ = length f.mandatory ∷ length f.advisory ∷ [] in
    let split : List ℕ = (flat_map param_sizes f.mandatory ++ flat_map param_sizes f.advisory)
    ++ (flat_map param_data f.mandatory ++ flat_map param_data f.advisory) in
    let body : flat_map param_sizes (all_params f) ++ flat_map param_data (all_params f) ≡ split =
    ap (λ (x : List ℕ). x ++ flat_map param_data (all_params f))
    (flat_map-append param_sizes f.mandatory f.advisory)
    ∙ ap (λ (x : List ℕ). (flat_map param_sizes f.mandatory ++ flat_map param_sizes f.advisory) ++ x)
    (flat_map-append param_data f.mandatory f.advisory) in
    let at_split : spelling f ++ rest ≡ (length f.kind ∷ f.kind)
    ++ (to_be_bytes w32 f.id ++ (counts ++ (split ++ rest))) =
    ap (λ (x : List ℕ). ((length f.kind ∷ f.kind) ++ (to_be_bytes w32 f.id ++ (counts ++ x))) ++ rest) body
    ∙ regrouped (length f.kind ∷ f.kind) (to_be_bytes w32 f.id) counts split rest in
    let kind = counted_again f.kind (to_be_bytes w32 f.id ++ (counts ++ (split ++ rest))) in
    let id = number_again f.id (counts ++ (split ++ rest)) fits.id in
    let blocks = blocks_again f.mandatory f.advisory rest in
    ap front_at at_split ∙ rw (kind, id, blocks) refl

pub fields_again : (f : Fields) → fields_in (front_of f) ≡ f
fields_again f = rw (params_again f.mandatory, params_again f.advisory) refl

-- no other fault comes from the fields
bind_err : {A B : Type 0} (r : Result A ParamFault) (f : A → Result B ParamFault) (d : ParamFault)
    → ((e : ParamFault) → r ≡ Err e → e ≡ Short) → ((x : A) → f x ≡ Err d → d ≡ Short) → (r >>= f) ≡ Err d
    → d ≡ Short
bind_err (Ok x) f d first then e = then x e
bind_err (Err c) f d first then e = let same : c ≡ d = cc in sym same ∙ first c refl

guard_err : {A : Type 0} (b : Bool) (x : A) (d : ParamFault) → cond b (Err Short) (Ok x) ≡ Err d → d ≡ Short
guard_err true x d e = cc
guard_err false x d e = absurd cc

bytes_err : (n : ℕ) (bytes : List ℕ) (d : ParamFault) → bytes_at n bytes ≡ Err d → d ≡ Short
unfolding bytes_at
bytes_err n bytes d e = guard_err (ltb (length bytes) n) _ d e

counted_err : (bytes : List ℕ) (d : ParamFault) → counted_at bytes ≡ Err d → d ≡ Short
unfolding counted_at
counted_err [] d e = cc
counted_err (n ∷ bytes) d e = bytes_err n bytes d e

number_err : (bytes : List ℕ) (d : ParamFault) → number_at bytes ≡ Err d → d ≡ Short
unfolding number_at
number_err bytes d e = bind_err (bytes_at 4 bytes) _ d (bytes_err 4 bytes) (λ x h. absurd cc) e

pair_err : (bytes : List ℕ) (d : ParamFault) → pair_at bytes ≡ Err d → d ≡ Short
unfolding pair_at
pair_err [] d e = cc
pair_err (x ∷ []) d e = cc
pair_err (x ∷ y ∷ bytes) d e = absurd cc

blocks_err : (counts : ℕ × ℕ) (bytes : List ℕ) (d : ParamFault) → blocks_at counts bytes ≡ Err d → d ≡ Short
unfolding blocks_at
blocks_err counts bytes d e =
    bind_err (bytes_at (2 * counts.0) bytes) _ d (bytes_err _ _)
    (λ first. bind_err (bytes_at (2 * counts.1) first.1) _ d (bytes_err _ _)
    (λ second. bind_err (bytes_at (sum first.0) second.1) _ d (bytes_err _ _)
    (λ third. bind_err (bytes_at (sum second.0) third.1) _ d (bytes_err _ _) (λ fourth h. absurd cc)))) e

pub front_err : (bytes : List ℕ) (d : ParamFault) → front_at bytes ≡ Err d → d ≡ Short
unfolding front_at
front_err bytes d e =
    bind_err (counted_at bytes) _ d (counted_err bytes)
    (λ kind. bind_err (number_at kind.1) _ d (number_err kind.1)
    (λ id. bind_err (pair_at id.1) _ d (pair_err id.1)
    (λ counts. bind_err (blocks_at counts.0 counts.1) _ d (blocks_err counts.0 counts.1)
    (λ blocks h. absurd cc)))) e
