-- The fields of a marker: what is read is spelled so, and what is spelled so is read.
use Rattle.std.proofs.Common.{◌≡◌, ◌+◌, ◌*◌, ◌/◌, ◌^◌, ◌<◌, ◌≤◌, ℕ, zero, suc, Bool, true, false, cond, ltb}
use Rattle.std.proofs.Common.{List, [], ◌∷◌, ◌++◌, length, take, drop, map, Result, Ok, Err, refl, sym, ap}
use Rattle.std.proofs.Common.{subst, ◌∙◌, append_assoc, arith, inl, inr}
use Rattle.std.specs.Int.{w32, from_be_bytes, to_be_bytes}
use Rattle.std.specs.Simd.{first_chunks}
use Rattle.std.specs.List.{AllByRecursion}
use Rattle.std.proofs.lemmas.Bool.{cases_lt, ltb-false, le-ltb}
use Rattle.std.proofs.lemmas.List.{take_at, drop_at, take-append-drop, length-append, length-take}
use Rattle.std.proofs.lemmas.List.{length-drop, get_or-drop, get_or-take, get_or_past, nil_from_length}
use Rattle.std.proofs.lemmas.List.Concat.{flat_map-cons}
use Rattle.std.proofs.lemmas.Nat.{be_bytes_4, from_be_bytes-to_be_bytes_4}
use Rattle.hg_types.specs.declared.node.Node.{Node}
use Rattle.hg_types.specs.Bytes.{IsBytes}
use Rattle.hg_obs.specs.declared.fault.MarkerFault.{MarkerFault}
use Rattle.hg_obs.specs.declared.fault.MarkerFault.TheVariants.{Short}
use Rattle.hg_obs.specs.Marker.{ids_bytes}
use Rattle.hg_obs.specs.Reading.{◌>>=◌, byte_at, number_at, bytes_at, node_of, node_at, nodes_at, Fields}
use Rattle.hg_obs.specs.Reading.{fields_at}

pub IsBytes-drop : (n : ℕ) (bytes : List ℕ) → IsBytes bytes → IsBytes (drop n bytes)
IsBytes-drop n bytes h i = rw get_or-drop (h (n + i))

IsBytes-take : (n : ℕ) (bytes : List ℕ) → IsBytes bytes → IsBytes (take n bytes)
IsBytes-take n bytes h i =
    elim (cases_lt i n) [
      | inl lt ↦ rw (get_or-take n bytes i 0 lt) (h i)
      | inr le ↦ rw (get_or_past (take n bytes) i 0 (omega (arith, length-take n bytes))) (omega arith)
    ]

pub bind_ok : {A B : Type 0} (r : Result A MarkerFault) (f : A → Result B MarkerFault) (y : B)
    → (r >>= f) ≡ Ok y → (x : A) × (r ≡ Ok x) × (f x ≡ Ok y)
bind_ok (Ok x) f y e = (x, refl, e)
bind_ok (Err d) f y e = absurd cc

guard_ok : {A : Type 0} (b : Bool) (d : MarkerFault) (x y : A) → cond b (Err d) (Ok x) ≡ Ok y → (b ≡ false)
    × (x ≡ y)
guard_ok true d x y e = absurd cc
guard_ok false d x y e = (refl, cc)

abbrev done : {A : Type 0} → A → Result A MarkerFault
done x = Ok x

pub ok_is : {A : Type 0} (x y : A) → done x ≡ done y → x ≡ y
ok_is x y e = cc

-- what a reader took from the front
pub record TakesText (bytes text rest : List ℕ) : Type 0 where
  pub parts : bytes ≡ text ++ rest
  pub rest_fits : IsBytes rest

byte_takes : (bytes : List ℕ) (byte : ℕ) (rest : List ℕ) → IsBytes bytes → byte_at bytes ≡ Ok (byte, rest)
    → TakesText bytes (byte ∷ []) rest × (byte < 256)
unfolding byte_at
byte_takes [] byte rest fits e = absurd cc
byte_takes (b ∷ bytes) byte rest fits e =
    let both = ok_is (b, bytes) (byte, rest) e in
    let tail : IsBytes bytes = λ i. fits (suc i) in
    let first : b < 256 = fits 0 in
    subst (λ (p : ℕ × List ℕ). TakesText (b ∷ bytes) (p.0 ∷ []) p.1 × (p.0 < 256)) both
    (record { parts = refl; rest_fits = tail }, first)

-- so many bytes from the front
split_takes : (n : ℕ) (bytes text rest : List ℕ) → IsBytes bytes → n ≤ length bytes → take n bytes ≡ text
    → drop n bytes ≡ rest → TakesText bytes text rest × (length text ≡ n)
split_takes n bytes text rest fits long text-is rest-is = (
  record {
    parts = sym (take-append-drop n bytes) ∙ ap (λ (t : List ℕ). t ++ drop n bytes) text-is
        ∙ ap (λ (t : List ℕ). text ++ t) rest-is;
    rest_fits = rw (← rest-is) (IsBytes-drop n bytes fits);
  },
  rw (← text-is) (omega (arith, length-take n bytes)),
)

bytes_takes : (n : ℕ) (bytes text rest : List ℕ) → IsBytes bytes → bytes_at n bytes ≡ Ok (text, rest)
    → TakesText bytes text rest × (length text ≡ n)
unfolding bytes_at
bytes_takes n bytes text rest fits e =
    let g = guard_ok (ltb (length bytes) n) Short (take n bytes, drop n bytes) (text, rest) e in
    split_takes n bytes text rest fits (ltb-false _ _ g.0) (ap (λ (p : List ℕ × List ℕ). p.0) g.1)
    (ap (λ (p : List ℕ × List ℕ). p.1) g.1)

node_takes : (bytes : List ℕ) (node : Node) (rest : List ℕ) → IsBytes bytes → node_at bytes ≡ Ok (node, rest)
    → TakesText bytes node.0 rest × (length node.0 ≡ 20)
unfolding node_at
node_takes bytes node rest fits e =
    let g = guard_ok (ltb (length bytes) 20) Short (node_of (take 20 bytes), drop 20 bytes) (node, rest) e in
    split_takes 20 bytes node.0 rest fits (ltb-false _ _ g.0) (ap (λ (p : Node × List ℕ). p.0.0) g.1)
    (ap (λ (p : Node × List ℕ). p.1) g.1)

number_takes : (bytes : List ℕ) (n : ℕ) (rest : List ℕ) → IsBytes bytes → number_at bytes ≡ Ok (n, rest)
    → TakesText bytes (to_be_bytes w32 n) rest × (n < 2 ^ 32)
unfolding number_at
number_takes bytes n rest fits e =
    let g = guard_ok (ltb (length bytes) 4) Short (from_be_bytes w32 (take 4 bytes), drop 4 bytes)
    (n, rest) e in
    let long : 4 ≤ length bytes = ltb-false _ _ g.0 in
    let n-is : from_be_bytes w32 (take 4 bytes) ≡ n = ap (λ (p : ℕ × List ℕ). p.0) g.1 in
    let rest-is : drop 4 bytes ≡ rest = ap (λ (p : ℕ × List ℕ). p.1) g.1 in
    let front_fits : IsBytes (take 4 bytes) = IsBytes-take 4 bytes fits in
    let front : to_be_bytes w32 n ≡ take 4 bytes = be_bytes_4 (take 4 bytes) n
    (omega (arith, length-take 4 bytes)) front_fits (sym n-is) in
    let parts : bytes ≡ to_be_bytes w32 n ++ rest = sym (take-append-drop 4 bytes)
    ∙ ap (λ (t : List ℕ). t ++ drop 4 bytes) (sym front)
    ∙ ap (λ (t : List ℕ). to_be_bytes w32 n ++ t) rest-is in (
      record { parts = parts; rest_fits = rw (← rest-is) (IsBytes-drop 4 bytes fits) },
      rw (← n-is) (omega (arith, front_fits 0, front_fits 1, front_fits 2, front_fits 3)),
    )

abbrev pub HasLength20 : Node → Type 0
HasLength20 id = length id.0 ≡ 20

-- bytes cut into ids are the ids joined
chunks_joined : (n : ℕ) (bytes : List ℕ) → length bytes ≡ n * 20
    → ids_bytes (map node_of (first_chunks 20 n bytes)) ≡ bytes
chunks_joined zero bytes e = sym (nil_from_length bytes (omega arith))
chunks_joined (suc n) bytes e =
    flat_map-cons (λ (id : Node). id.0) (node_of (take 20 bytes))
    (map node_of (first_chunks 20 n (drop 20 bytes)))
    ∙ ap (λ (t : List ℕ). take 20 bytes ++ t)
    (chunks_joined n (drop 20 bytes) (omega (arith, length-drop 20 bytes))) ∙ take-append-drop 20 bytes

chunks_each : (n : ℕ) (bytes : List ℕ) → length bytes ≡ n * 20
    → AllByRecursion HasLength20 (map node_of (first_chunks 20 n bytes))
chunks_each zero bytes e = tt
chunks_each (suc n) bytes e =
    (omega (arith, length-take 20 bytes), chunks_each n (drop 20 bytes) (omega (arith, length-drop 20 bytes)))

chunks_count : (n : ℕ) (bytes : List ℕ) → length (map node_of (first_chunks 20 n bytes)) ≡ n
chunks_count zero bytes = refl
chunks_count (suc n) bytes = ap suc (chunks_count n (drop 20 bytes))

record TakesNodes (n : ℕ) (bytes : List ℕ) (nodes : List Node) (rest : List ℕ) : Type 0 where
  takes : TakesText bytes (ids_bytes nodes) rest
  each : AllByRecursion HasLength20 nodes
  count : length nodes ≡ n

abbrev with_rest : ℕ → List ℕ × List ℕ → Result (List Node × List ℕ) MarkerFault
with_rest n ids = Ok (map node_of (first_chunks 20 n ids.0), ids.1)

nodes_takes : (n : ℕ) (bytes : List ℕ) (nodes : List Node) (rest : List ℕ) → IsBytes bytes
    → nodes_at n bytes ≡ Ok (nodes, rest) → TakesNodes n bytes nodes rest
unfolding nodes_at
nodes_takes n bytes nodes rest fits e =
    let b = bind_ok (bytes_at (n * 20) bytes) (with_rest n) (nodes, rest) e in
    let t = bytes_takes (n * 20) bytes b.0.0 b.0.1 fits b.1 in
    let both = ok_is (map node_of (first_chunks 20 n b.0.0), b.0.1) (nodes, rest) b.2 in
    let nodes-is : map node_of (first_chunks 20 n b.0.0) ≡ nodes =
    ap (λ (p : List Node × List ℕ). p.0) both in
    let rest-is : b.0.1 ≡ rest = ap (λ (p : List Node × List ℕ). p.1) both in
    let joined : ids_bytes nodes ≡ b.0.0 = ap ids_bytes (sym nodes-is) ∙ chunks_joined n b.0.0 t.1 in
    record {
      takes = record {
        parts = t.0.parts ∙ ap (λ (x : List ℕ). x ++ b.0.1) (sym joined)
            ∙ ap (λ (x : List ℕ). ids_bytes nodes ++ x) rest-is;
        rest_fits = subst IsBytes rest-is t.0.rest_fits;
      };
      each = subst (AllByRecursion HasLength20) nodes-is (chunks_each n b.0.0 t.1);
      count = ap length (sym nodes-is) ∙ chunks_count n b.0.0;
    }

bytes_length : (n : ℕ) (bytes text rest : List ℕ) → bytes_at n bytes ≡ Ok (text, rest) → length text ≡ n
unfolding bytes_at
bytes_length n bytes text rest e =
    let g = guard_ok (ltb (length bytes) n) Short (take n bytes, drop n bytes) (text, rest) e in
    let long : n ≤ length bytes = ltb-false _ _ g.0 in
    ap (λ (p : List ℕ × List ℕ). length p.0) (sym g.1) ∙ omega (arith, length-take n bytes)

-- the ids, as the code cuts them
pub nodes_are : (n : ℕ) (bytes ids rest : List ℕ) → bytes_at (n * 20) bytes ≡ Ok (ids, rest)
    → nodes_at n bytes ≡ Ok (map node_of (first_chunks 20 (length ids / 20) ids), rest)
unfolding nodes_at
nodes_are n bytes ids rest e =
    let len : length ids ≡ n * 20 = bytes_length (n * 20) bytes ids rest e in
    let count : n ≡ length ids / 20 = omega arith in
    ap (λ (r : Result (List ℕ × List ℕ) MarkerFault). r >>= with_rest n) e
    ∙ ap (λ (k : ℕ). Ok (map node_of (first_chunks 20 k ids), rest)) count

-- ---- the other way

bytes_again : (text rest : List ℕ) (n : ℕ) → length text ≡ n → bytes_at n (text ++ rest) ≡ Ok (text, rest)
unfolding bytes_at
bytes_again text rest n len =
    let long : ltb (length (text ++ rest)) n ≡ false = le-ltb _ _ (omega (arith, length-append text rest)) in
    rw (long, take_at text rest n len, drop_at text rest n len) refl

node_again : (node : Node) (rest : List ℕ) → length node.0 ≡ 20 → node_at (node.0 ++ rest) ≡ Ok (node, rest)
unfolding node_at
node_again node rest len =
    let long : ltb (length (node.0 ++ rest)) 20 ≡ false = le-ltb _ _
    (omega (arith, length-append node.0 rest)) in
    rw (long, take_at node.0 rest 20 len, drop_at node.0 rest 20 len) refl

number_front : (front rest : List ℕ) → length front ≡ 4
    → number_at (front ++ rest) ≡ Ok (from_be_bytes w32 front, rest)
unfolding number_at
number_front front rest len =
    let long : ltb (length (front ++ rest)) 4 ≡ false = le-ltb _ _
    (omega (arith, len, length-append front rest)) in
    rw (long, take_at front rest 4 len, drop_at front rest 4 len) refl

number_again : (n : ℕ) (rest : List ℕ) → n < 2 ^ 32 → number_at (to_be_bytes w32 n ++ rest) ≡ Ok (n, rest)
number_again n rest lt = number_front (to_be_bytes w32 n) rest refl
    ∙ ap (λ (k : ℕ). Ok (k, rest)) (from_be_bytes-to_be_bytes_4 n lt)

chunks_again : (nodes : List Node) → AllByRecursion HasLength20 nodes
    → map node_of (first_chunks 20 (length nodes) (ids_bytes nodes)) ≡ nodes
chunks_again [] each = refl
chunks_again (node ∷ nodes) each =
    let cut : ids_bytes (node ∷ nodes) ≡ node.0
    ++ ids_bytes nodes = flat_map-cons (λ (id : Node). id.0) node nodes in
    let first : take 20 (ids_bytes (node ∷ nodes)) ≡ node.0 = ap (take 20) cut
    ∙ take_at node.0 (ids_bytes nodes) 20 each.0 in
    let others : drop 20 (ids_bytes (node ∷ nodes)) ≡ ids_bytes nodes = ap (drop 20) cut
    ∙ drop_at node.0 (ids_bytes nodes) 20 each.0 in
    ap (λ (id : List ℕ). node_of id
    ∷ map node_of (first_chunks 20 (length nodes) (drop 20 (ids_bytes (node ∷ nodes))))) first
    ∙ ap (λ (bytes : List ℕ). node ∷ map node_of (first_chunks 20 (length nodes) bytes)) others
    ∙ ap (λ (ns : List Node). node ∷ ns) (chunks_again nodes each.1)

ids_length : (nodes : List Node) → AllByRecursion HasLength20 nodes
    → length (ids_bytes nodes) ≡ length nodes * 20
ids_length [] each = refl
ids_length (node ∷ nodes) each =
    let rest : length (ids_bytes nodes) ≡ length nodes * 20 = ids_length nodes each.1 in
    ap length (flat_map-cons (λ (id : Node). id.0) node nodes)
    ∙ omega (arith, length-append node.0 (ids_bytes nodes), each.0)

nodes_again : (nodes : List Node) (rest : List ℕ) → AllByRecursion HasLength20 nodes
    → nodes_at (length nodes) (ids_bytes nodes ++ rest) ≡ Ok (nodes, rest)
unfolding nodes_at
nodes_again nodes rest each =
    ap (λ (r : Result (List ℕ × List ℕ) MarkerFault). r >>= with_rest (length nodes))
    (bytes_again (ids_bytes nodes) rest (length nodes * 20) (ids_length nodes each))
    ∙ ap (λ (ns : List Node). Ok (ns, rest)) (chunks_again nodes each)

-- ---- all the fields

-- the fields, spelled
abbrev pub spelling : Fields → List ℕ
spelling f = length f.successors
    ∷ (to_be_bytes w32 (length f.meta) ++ (f.flags ∷ (f.predecessor.0 ++ (ids_bytes f.successors ++ f.meta))))

-- what has a spelling
pub record FieldsFit (f : Fields) : Type 0 where
  pub successors : length f.successors < 2 ^ 8
  pub meta : length f.meta < 2 ^ 32
  pub predecessor : length f.predecessor.0 ≡ 20
  pub each : AllByRecursion HasLength20 f.successors

regroup : (count flags : ℕ) (size id ids meta rest : List ℕ)
    → (count ∷ (size ++ (flags ∷ (id ++ (ids ++ meta))))) ++ rest ≡ count
    ∷ (size ++ (flags ∷ (id ++ (ids ++ (meta ++ rest)))))
regroup count flags size id ids meta rest = simp append_assoc

abbrev with_meta : ℕ → Node → List Node → List ℕ × List ℕ → Result (Fields × List ℕ) MarkerFault
with_meta flags predecessor successors meta =
    Ok (record { successors = successors; flags = flags; predecessor = predecessor; meta = meta.0 }, meta.1)

abbrev with_ids : ℕ → ℕ → Node → List Node × List ℕ → Result (Fields × List ℕ) MarkerFault
with_ids size flags predecessor successors =
    bytes_at size successors.1 >>= with_meta flags predecessor successors.0

abbrev with_node : ℕ → ℕ → ℕ → Node × List ℕ → Result (Fields × List ℕ) MarkerFault
with_node count size flags predecessor = nodes_at count predecessor.1 >>= with_ids size flags predecessor.0

abbrev with_flags : ℕ → ℕ → ℕ × List ℕ → Result (Fields × List ℕ) MarkerFault
with_flags count size flags = node_at flags.1 >>= with_node count size flags.0

abbrev with_size : ℕ → ℕ × List ℕ → Result (Fields × List ℕ) MarkerFault
with_size count size = byte_at size.1 >>= with_flags count size.0

abbrev with_count : ℕ × List ℕ → Result (Fields × List ℕ) MarkerFault
with_count count = number_at count.1 >>= with_size count.0

pub record TakesFields (bytes : List ℕ) (f : Fields) (rest : List ℕ) : Type 0 where
  pub takes : TakesText bytes (spelling f) rest
  pub fits : FieldsFit f

pub fields_take : (bytes : List ℕ) (f : Fields) (rest : List ℕ) → IsBytes bytes
    → fields_at bytes ≡ Ok (f, rest) → TakesFields bytes f rest
unfolding fields_at
fields_take bytes f rest fits e =
    let a = bind_ok (byte_at bytes) with_count (f, rest) e in
    let b = bind_ok (number_at a.0.1) (with_size a.0.0) (f, rest) a.2 in
    let c = bind_ok (byte_at b.0.1) (with_flags a.0.0 b.0.0) (f, rest) b.2 in
    let d = bind_ok (node_at c.0.1) (with_node a.0.0 b.0.0 c.0.0) (f, rest) c.2 in
    let g = bind_ok (nodes_at a.0.0 d.0.1) (with_ids b.0.0 c.0.0 d.0.0) (f, rest) d.2 in
    let h = bind_ok (bytes_at b.0.0 g.0.1) (with_meta c.0.0 d.0.0 g.0.0) (f, rest) g.2 in
    let t0 = byte_takes bytes a.0.0 a.0.1 fits a.1 in
    let t1 = number_takes a.0.1 b.0.0 b.0.1 t0.0.rest_fits b.1 in
    let t2 = byte_takes b.0.1 c.0.0 c.0.1 t1.0.rest_fits c.1 in
    let t3 = node_takes c.0.1 d.0.0 d.0.1 t2.0.rest_fits d.1 in
    let t4 = nodes_takes a.0.0 d.0.1 g.0.0 g.0.1 t3.0.rest_fits g.1 in
    let t5 = bytes_takes b.0.0 g.0.1 h.0.0 h.0.1 t4.takes.rest_fits h.1 in
    let made : Fields = record { successors = g.0.0; flags = c.0.0; predecessor = d.0.0; meta = h.0.0 } in
    let both = ok_is (made, h.0.1) (f, rest) h.2 in
    let joined : bytes ≡ a.0.0
    ∷ (to_be_bytes w32 b.0.0 ++ (c.0.0 ∷ (d.0.0.0 ++ (ids_bytes g.0.0 ++ (h.0.0 ++ h.0.1))))) =
    t0.0.parts ∙ ap (λ (x : List ℕ). a.0.0 ∷ x) (t1.0.parts
    ∙ ap (λ (x : List ℕ). to_be_bytes w32 b.0.0 ++ x) (t2.0.parts
    ∙ ap (λ (x : List ℕ). c.0.0 ∷ x) (t3.0.parts
    ∙ ap (λ (x : List ℕ). d.0.0.0 ++ x) (t4.takes.parts
    ∙ ap (λ (x : List ℕ). ids_bytes g.0.0 ++ x) t5.0.parts)))) in
    let counted : bytes ≡ length g.0.0
    ∷ (to_be_bytes w32 (length h.0.0) ++ (c.0.0 ∷ (d.0.0.0 ++ (ids_bytes g.0.0 ++ (h.0.0 ++ h.0.1))))) =
    joined ∙ ap (λ (n : ℕ). n
    ∷ (to_be_bytes w32 b.0.0 ++ (c.0.0 ∷ (d.0.0.0 ++ (ids_bytes g.0.0 ++ (h.0.0 ++ h.0.1))))))
    (sym t4.count)
    ∙ ap (λ (n : ℕ). length g.0.0
    ∷ (to_be_bytes w32 n ++ (c.0.0 ∷ (d.0.0.0 ++ (ids_bytes g.0.0 ++ (h.0.0 ++ h.0.1)))))) (sym t5.1) in
    let spelled : bytes ≡ spelling made ++ h.0.1 = counted
    ∙ sym (regroup (length g.0.0) c.0.0 (to_be_bytes w32 (length h.0.0)) d.0.0.0
    (ids_bytes g.0.0) h.0.0 h.0.1) in
    let made_fits : FieldsFit made =
    record {
      successors = omega (arith, t4.count, t0.1);
      meta = omega (arith, t5.1, t1.1);
      predecessor = t3.1;
      each = t4.each;
    } in
    let took : TakesFields bytes made h.0.1 =
    record { takes = record { parts = spelled; rest_fits = t5.0.rest_fits }; fits = made_fits } in
    subst (λ (p : Fields × List ℕ). TakesFields bytes p.0 p.1) both took

pub fields_again : (f : Fields) (rest : List ℕ) → FieldsFit f → fields_at (spelling f ++ rest) ≡ Ok (f, rest)
unfolding fields_at byte_at
fields_again f rest fits =
    ap fields_at (regroup (length f.successors) f.flags (to_be_bytes w32 (length f.meta)) f.predecessor.0
    (ids_bytes f.successors) f.meta rest)
    ∙ ap (λ (r : Result (ℕ × List ℕ) MarkerFault). r >>= with_size (length f.successors))
    (number_again (length f.meta) (f.flags
    ∷ (f.predecessor.0 ++ (ids_bytes f.successors ++ (f.meta ++ rest)))) fits.meta)
    ∙ ap (λ (r : Result (Node × List ℕ) MarkerFault). r
    >>= with_node (length f.successors) (length f.meta) f.flags)
    (node_again f.predecessor (ids_bytes f.successors ++ (f.meta ++ rest)) fits.predecessor)
    ∙ ap (λ (r : Result (List Node × List ℕ) MarkerFault). r
    >>= with_ids (length f.meta) f.flags f.predecessor)
    (nodes_again f.successors (f.meta ++ rest) fits.each)
    ∙ ap (λ (r : Result (List ℕ × List ℕ) MarkerFault). r >>= with_meta f.flags f.predecessor f.successors)
    (bytes_again f.meta rest (length f.meta) refl)

-- ---- the fields alone are only ever short

bind_err : {A B : Type 0} (r : Result A MarkerFault) (f : A → Result B MarkerFault) (d : MarkerFault)
    → ((e : MarkerFault) → r ≡ Err e → e ≡ Short) → ((x : A) → f x ≡ Err d → d ≡ Short) → (r >>= f) ≡ Err d
    → d ≡ Short
bind_err (Ok x) f d first then e = then x e
bind_err (Err c) f d first then e = let same : c ≡ d = cc in sym same ∙ first c refl

guard_err : {A : Type 0} (b : Bool) (x : A) (d : MarkerFault) → cond b (Err Short) (Ok x) ≡ Err d → d ≡ Short
guard_err true x d e = cc
guard_err false x d e = absurd cc

byte_err : (bytes : List ℕ) (d : MarkerFault) → byte_at bytes ≡ Err d → d ≡ Short
unfolding byte_at
byte_err [] d e = cc
byte_err (b ∷ bytes) d e = absurd cc

number_err : (bytes : List ℕ) (d : MarkerFault) → number_at bytes ≡ Err d → d ≡ Short
unfolding number_at
number_err bytes d e = guard_err (ltb (length bytes) 4) _ d e

node_err : (bytes : List ℕ) (d : MarkerFault) → node_at bytes ≡ Err d → d ≡ Short
unfolding node_at
node_err bytes d e = guard_err (ltb (length bytes) 20) _ d e

bytes_err : (n : ℕ) (bytes : List ℕ) (d : MarkerFault) → bytes_at n bytes ≡ Err d → d ≡ Short
unfolding bytes_at
bytes_err n bytes d e = guard_err (ltb (length bytes) n) _ d e

nodes_err : (n : ℕ) (bytes : List ℕ) (d : MarkerFault) → nodes_at n bytes ≡ Err d → d ≡ Short
unfolding nodes_at
nodes_err n bytes d e = bind_err (bytes_at (n * 20) bytes) (with_rest n) d (bytes_err (n * 20) bytes)
    (λ x h. absurd cc) e

pub fields_err : (bytes : List ℕ) (d : MarkerFault) → fields_at bytes ≡ Err d → d ≡ Short
unfolding fields_at
fields_err bytes d e =
    bind_err (byte_at bytes) with_count d (byte_err bytes) (λ count.
    bind_err (number_at count.1) (with_size count.0) d (number_err count.1) (λ size.
    bind_err (byte_at size.1) (with_flags count.0 size.0) d (byte_err size.1) (λ flags.
    bind_err (node_at flags.1) (with_node count.0 size.0 flags.0) d (node_err flags.1) (λ predecessor.
    bind_err (nodes_at count.0 predecessor.1) (with_ids size.0 flags.0 predecessor.0) d
    (nodes_err count.0 predecessor.1) (λ successors.
    bind_err (bytes_at size.0 successors.1) (with_meta flags.0 predecessor.0 successors.0) d
    (bytes_err size.0 successors.1) (λ meta h. absurd cc)))))) e
