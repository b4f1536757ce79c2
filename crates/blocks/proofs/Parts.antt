-- The work of cutting a graph: what every step of it keeps, and that it ends with exactly the blocks and the cut vertices.
use Rattle.std.proofs.Common.{◌≡◌, ℕ, ◌+◌, ◌*◌, ◌-◌, ◌≤◌, ◌<◌, ◌↔◌, Bool, true, false, List, [], ◌∷◌, ◌++◌, length, set, get_or, reverse, Contains, IsTrue, Vec, refl, sym, ap, ◌∙◌, inl, inr, arith, subst, length-set}
use Rattle.std.specs.Global.{Global}
use Rattle.std.specs.declared.option.Option.TheVariants.{Some as Present}
use Rattle.std.proofs.lemmas.Bool.{cases_lt, cases_Bool, and_parts, and_from, both_ways, false_from_ne_true}
use Rattle.std.proofs.lemmas.List.{length_push}
use Rattle.std.proofs.lemmas.List.Elements.{All-push, All-pop, All-map, All-contains, All-contains_itself}
use Rattle.tomo_base.specs.Network.{Network, IsGraph}
use Rattle.tomo_base.specs.Sets.{has, count, members, without, Within}
use Rattle.tomo_base.specs.Walks.{IsConnected, everything}
use Rattle.tomo_base.specs.Blocks.{IsBlock, IsCutVertex}
use Rattle.tomo_base.specs.Search.{mark_of}
use Rattle.tomo_base.specs.SetLists.{IsSetBelow, AreSetsWith, lists_of}
use Rattle.tomo_base.specs.Parting.{with_one, IsJoinedIn, IsJoinedWithoutOne}
use Rattle.tomo_base.proofs.Counts.{count-same, count-le, count-everything}
use Rattle.tomo_base.proofs.Members.{has-members, members_below}
use Rattle.tomo_base.proofs.Ascending.{All-has, All-from_has, same_list, members_ascend}
use Rattle.tomo_base.proofs.Parting.{without-from, without-parts, joined-same}
use Rattle.tomo_base.proofs.Picks.{count-within}
use Rattle.tomo_base.proofs.Reaching.{is_node, nodes_in, is_node-from, is_node_below, connected-joined, joined-connected}
use Rattle.tomo_base.proofs.Walks.{connected_inside}
use Rattle.gate_search.proofs.Marks.{mark_below, mark_more}
use Rattle.blocks.specs.declared.block_list.Work.{Work}
use Rattle.blocks.specs.Cutting.{Each, Ready, Cutting, AreCuts, weight}
use Rattle.blocks.specs.Working.{sets_in, Working, weight_of}
use Rattle.blocks.proofs.SameSets.{contains_map}
use Rattle.blocks.proofs.SetLists.{each-map}
use Rattle.gate_search.proofs.Cutting.{Cut}
use Rattle.blocks.proofs.CutSets.{Block, rest, cut-count}
use Rattle.blocks.proofs.Cutting.{cutting-start, cutting-ready, cutting-cut, cutting-end}
use Rattle.blocks.proofs.CuttingAt.{cuts_none, cuts_more, cuts_ready, cuts_swap, cuts_same}
use Rattle.blocks.proofs.Working.{contains_reverse, reverse_contains, each_at, some_at, sets_push, cutting-same, cutting-swap, block-to, block-from, same_test}

-- ---- the beginning

-- at first all nodes are to be cut
pub begun : (g : Network) (w : Work) (p : Vec ℕ Global) → IsGraph g → IsConnected g → 2 ≤ g.nodes → p.items ≡ members g.nodes everything → w.todo.items ≡ p ∷ [] → w.found.items ≡ []
    → length w.cuts.items ≡ g.nodes → ((v : ℕ) → mark_of w.cuts.items v ≡ false) → Working g [] w
begun g w p graph connected two all todo_is found_is size bare =
    let n = g.nodes in
    let V : ℕ → Bool = is_node g in
    let node : (v : ℕ) → IsTrue (V v) → v < n = λ v m. is_node_below g v m in
    let has_all : (v : ℕ) → v < n → has p.items v ≡ true = λ v l. ap (λ xs. has xs v) all ∙ has-members n everything v l in
    let below : (v : ℕ) → IsTrue (has p.items v) → v < n = λ v h. elim (cases_lt v n) [
      | inl l ↦ l
      | inr ge ↦ absurd (both_ways (has p.items v) (ap (λ xs. has xs v) all ∙ members_below n everything v ge) h)
    ] in
    let to : Within V (has p.items) = λ v m. has_all v (node v m) in
    let from : Within (has p.items) V = λ v h. is_node-from g v (below v h) in
    let size_is : count n V ≡ n = count-same n V everything (λ v l. is_node-from g v l) ∙ count-everything n in
    let firm : IsJoinedIn g V = connected-joined g V node (connected_inside g everything V graph (λ v l h. is_node-from g v l) (λ v l h. refl) connected) in
    record {
      graph = graph;
      cutting = rw (todo_is, found_is) (cutting-same g V V (has p.items) [] [] to from (cutting-start g n V (omega (arith, size_is, two)) firm));
      cuts = rw (todo_is, found_is) (cuts_same g V V (has p.items) [] [] (mark_of w.cuts.items) to from (cuts_none g V (mark_of w.cuts.items) bare));
      marks = size;
      todo_nodes = rw todo_is (All-push (λ (v : Vec ℕ Global). IsSetBelow n v.items) [] p (λ k d l. absurd (omega (arith, l)))
          (record { ascending = rw all (members_ascend n everything); below = All-from_has (λ v. v < n) p.items below }));
      found_nodes = rw found_is (λ k d l. absurd (omega (arith, l)));
      few = rw (todo_is, found_is) (omega (arith, count-le n (has p.items)));
    }

-- ---- from step to step: `old` before it, and `new` after it

-- a part is taken from the list
pub taken : (g : Network) (old new : Work) (p : Vec ℕ Global) → old.todo.items ≡ new.todo.items ++ p ∷ [] → new.found.items ≡ old.found.items → new.cuts.items ≡ old.cuts.items → Working g [] old
    → Working g (has p.items ∷ []) new × IsSetBelow g.nodes p.items × (weight_of g (has p.items ∷ []) new ≡ weight_of g [] old)
taken g old new p todo_is found_is cuts_is w =
    let n = g.nodes in
    let V : ℕ → Bool = is_node g in
    let same : sets_in old.todo.items ≡ has p.items ∷ sets_in new.todo.items = ap sets_in todo_is ∙ sets_push new.todo.items p in
    let parts = All-pop (λ (v : Vec ℕ Global). IsSetBelow n v.items) (new.todo.items ++ p ∷ []) new.todo.items (Present p) refl (rw todo_is at w.todo_nodes) in
    let weight_is : weight_of g (has p.items ∷ []) new ≡ weight_of g [] old = sym (ap (weight n) same) in (
      record {
        graph = w.graph;
        cutting = rw found_is (subst (λ xs. Cutting g n V xs (sets_in old.found.items)) same w.cutting);
        cuts = rw (found_is, cuts_is) (subst (λ xs. AreCuts g V xs (sets_in old.found.items) (mark_of old.cuts.items)) same w.cuts);
        marks = ap length cuts_is ∙ w.marks;
        todo_nodes = parts.0;
        found_nodes = rw found_is w.found_nodes;
        few = omega (arith, w.few, weight_is, ap length found_is);
      },
      parts.1,
      weight_is,
    )

-- the set at hand is put on the list
pub put_last : (g : Network) (old new : Work) (p : Vec ℕ Global) → new.todo.items ≡ old.todo.items ++ p ∷ [] → new.found.items ≡ old.found.items → new.cuts.items ≡ old.cuts.items → IsSetBelow g.nodes p.items → Working g (has p.items ∷ []) old
    → Working g [] new × (weight_of g [] new ≡ weight_of g (has p.items ∷ []) old)
put_last g old new p todo_is found_is cuts_is part w =
    let n = g.nodes in
    let V : ℕ → Bool = is_node g in
    let same : sets_in new.todo.items ≡ has p.items ∷ sets_in old.todo.items = ap sets_in todo_is ∙ sets_push old.todo.items p in
    let weight_is : weight_of g [] new ≡ weight_of g (has p.items ∷ []) old = ap (weight n) same in (
      record {
        graph = w.graph;
        cutting = rw found_is (subst (λ xs. Cutting g n V xs (sets_in old.found.items)) (sym same) w.cutting);
        cuts = rw (found_is, cuts_is) (subst (λ xs. AreCuts g V xs (sets_in old.found.items) (mark_of old.cuts.items)) (sym same) w.cuts);
        marks = ap length cuts_is ∙ w.marks;
        todo_nodes = rw todo_is (All-push (λ (v : Vec ℕ Global). IsSetBelow n v.items) old.todo.items p w.todo_nodes part);
        found_nodes = rw found_is w.found_nodes;
        few = omega (arith, w.few, weight_is, ap length found_is);
      },
      weight_is,
    )

-- the first of two sets at hand is put on the list
pub put_first : (g : Network) (S : ℕ → Bool) (old new : Work) (p : Vec ℕ Global) → new.todo.items ≡ old.todo.items ++ p ∷ [] → new.found.items ≡ old.found.items → new.cuts.items ≡ old.cuts.items → IsSetBelow g.nodes p.items
    → Working g (has p.items ∷ (S ∷ [])) old → Working g (S ∷ []) new × (weight_of g (S ∷ []) new ≡ weight_of g (has p.items ∷ (S ∷ [])) old)
put_first g S old new p todo_is found_is cuts_is part w =
    let n = g.nodes in
    let V : ℕ → Bool = is_node g in
    let A : ℕ → Bool = has p.items in
    let same : sets_in new.todo.items ≡ A ∷ sets_in old.todo.items = ap sets_in todo_is ∙ sets_push old.todo.items p in
    let heavy : weight n (sets_in new.todo.items) ≡ (2 * count n A - 3) + weight n (sets_in old.todo.items) = ap (weight n) same in
    let weight_is : weight_of g (S ∷ []) new ≡ weight_of g (A ∷ (S ∷ [])) old = omega (arith, heavy) in (
      record {
        graph = w.graph;
        cutting = rw found_is (subst (λ xs. Cutting g n V (S ∷ xs) (sets_in old.found.items)) (sym same) (cutting-swap g V A S (sets_in old.todo.items) (sets_in old.found.items) w.cutting));
        cuts = rw (found_is, cuts_is) (subst (λ xs. AreCuts g V (S ∷ xs) (sets_in old.found.items) (mark_of old.cuts.items)) (sym same)
            (cuts_swap g V A S (sets_in old.todo.items) (sets_in old.found.items) (mark_of old.cuts.items) w.cuts));
        marks = ap length cuts_is ∙ w.marks;
        todo_nodes = rw todo_is (All-push (λ (v : Vec ℕ Global). IsSetBelow n v.items) old.todo.items p w.todo_nodes part);
        found_nodes = rw found_is w.found_nodes;
        few = omega (arith, w.few, weight_is, ap length found_is);
      },
      weight_is,
    )

-- the set at hand is cut in two
pub cut_in_two : (g : Network) (S : ℕ → Bool) (c : ℕ) (K A B : ℕ → Bool) (old new : Work) → new.todo.items ≡ old.todo.items → new.found.items ≡ old.found.items → new.cuts.items ≡ set old.cuts.items c true
    → Cut g S c K → Within (with_one K c) A → Within A (with_one K c) → Within (with_one (rest S c K) c) B → Within B (with_one (rest S c K) c) → Working g (S ∷ []) old
    → Working g (A ∷ (B ∷ [])) new × (weight_of g (A ∷ (B ∷ [])) new < weight_of g (S ∷ []) old)
cut_in_two g S c K A B old new todo_is found_is cuts_is cut ka ak rb br w =
    let n = g.nodes in
    let V : ℕ → Bool = is_node g in
    let R : ℕ → Bool = rest S c K in
    let todo = sets_in old.todo.items in
    let out = sets_in old.found.items in
    let marks = mark_of new.cuts.items in
    let s = w.cutting.rough.0 in
    let low : (v : ℕ) → IsTrue (V v) → v < n = λ v m. is_node_below g v m in
    let room : c < length old.cuts.items = omega (arith, low c (s.inside c cut.at), w.marks) in
    let both : Cutting g n V (A ∷ (B ∷ todo)) out =
    cutting-swap g V B A todo out (cutting-same g V (with_one R c) B (A ∷ todo) out rb br (cutting-swap g V A (with_one R c) todo out
    (cutting-same g V (with_one K c) A (with_one R c ∷ todo) out ka ak (cutting-cut g n V low S c K todo out w.cutting cut)))) in
    let all_cuts : AreCuts g V (A ∷ (B ∷ todo)) out marks =
    cuts_swap g V B A todo out marks (cuts_same g V (with_one R c) B (A ∷ todo) out marks rb br (cuts_swap g V A (with_one R c) todo out marks
    (cuts_same g V (with_one K c) A (with_one R c ∷ todo) out marks ka ak
    (cuts_more g V S c K todo out (mark_of old.cuts.items) marks s.owner s.inside cut (λ v. ap (λ xs. mark_of xs v) cuts_is ∙ mark_more old.cuts.items c v room) w.cuts)))) in
    let counts : count n A + count n B ≤ count n S + 1 = omega (
      arith,
      cut-count g S c K n (λ v m. low v (s.inside v m)) cut,
      count-within n A (with_one K c) ak,
      count-within n B (with_one R c) br,
    ) in
    let smaller : weight_of g (A ∷ (B ∷ [])) new < weight_of g (S ∷ []) old = rw todo_is (omega (arith, counts, both.rough.0.two, both.rough.1.0.two)) in (
      record {
        graph = w.graph;
        cutting = rw (todo_is, found_is) both;
        cuts = rw (todo_is, found_is) all_cuts;
        marks = ap length cuts_is ∙ (length-set old.cuts.items c true ∙ w.marks);
        todo_nodes = rw todo_is w.todo_nodes;
        found_nodes = rw found_is w.found_nodes;
        few = omega (arith, w.few, smaller, ap length found_is);
      },
      smaller,
    )

-- the set at hand, which no node cuts, is found
pub found_one : (g : Network) (S : ℕ → Bool) (old new : Work) (v : Vec ℕ Global) → new.todo.items ≡ old.todo.items → new.found.items ≡ old.found.items ++ v ∷ [] → new.cuts.items ≡ old.cuts.items → IsSetBelow g.nodes v.items
    → Within S (has v.items) → Within (has v.items) S → IsJoinedWithoutOne g S → Working g (S ∷ []) old → Working g [] new × (weight_of g [] new < weight_of g (S ∷ []) old)
found_one g S old new v todo_is found_is cuts_is is sv vs firm w =
    let n = g.nodes in
    let V : ℕ → Bool = is_node g in
    let B : ℕ → Bool = has v.items in
    let todo = sets_in old.todo.items in
    let out = sets_in old.found.items in
    let same : sets_in new.found.items ≡ B ∷ out = ap sets_in found_is ∙ sets_push old.found.items v in
    let cutting = cutting-same g V S B todo out sv vs w.cutting in
    let s = w.cutting.rough.0 in
    let ready : IsJoinedWithoutOne g B = λ c. joined-same g (without S c) (without B c) (λ x m. let p = without-parts S c x m in without-from B c x (sv x p.0) p.1) (λ x m. let p = without-parts B c x m in without-from S c x (vs x p.0) p.1) (firm c) in
    let fewer : weight_of g [] new < weight_of g (S ∷ []) old = rw todo_is (omega (arith, s.two)) in (
      record {
        graph = w.graph;
        cutting = rw todo_is (subst (λ xs. Cutting g n V todo xs) (sym same) (cutting-ready g n V B todo out cutting ready));
        cuts = rw (todo_is, cuts_is) (subst (λ xs. AreCuts g V todo xs (mark_of old.cuts.items)) (sym same) (cuts_ready g V B todo out (mark_of old.cuts.items) (cuts_same g V S B todo out (mark_of old.cuts.items) sv vs w.cuts)));
        marks = ap length cuts_is ∙ w.marks;
        todo_nodes = rw todo_is w.todo_nodes;
        found_nodes = rw found_is (All-push (λ (u : Vec ℕ Global). IsSetBelow n u.items) old.found.items v w.found_nodes is);
        few = omega (arith, w.few, fewer, ap length found_is, length_push old.found.items v);
      },
      fewer,
    )

-- ---- the end

-- an empty list
no_parts : (xs : List (Vec ℕ Global)) → length xs ≤ 0 → xs ≡ []
no_parts [] l = refl
no_parts (x ∷ xs) l = absurd (omega (arith, l))

-- where nothing is left to cut, the sets are the blocks
pub all_blocks : (g : Network) (w : Work) → length w.todo.items ≤ 0 → Working g [] w → AreSetsWith g.nodes (IsBlock g) (lists_of w.found.items)
all_blocks g w none is =
    let n = g.nodes in
    let found = w.found.items in
    let empty : w.todo.items ≡ [] = no_parts w.todo.items none in
    let cutting : Cutting g n (is_node g) [] (sets_in found) = subst (λ xs. Cutting g n (is_node g) (sets_in xs) (sets_in found)) empty is.cutting in
    let ends = cutting-end g n (is_node g) (sets_in found) cutting in
    let block : (v : Vec ℕ Global) → Contains found v → Block g n (is_node g) (has v.items) = λ v h. each_at (λ (u : Vec ℕ Global). has u.items) (Block g n (is_node g)) (reverse found) v ends.0 (contains_reverse found v h) in
    record {
      nodes = All-map (IsSetBelow n) (λ (v : Vec ℕ Global). v.items) found is.found_nodes;
      each = All-map (λ s. IsBlock g (has s)) (λ (v : Vec ℕ Global). v.items) found
          (λ k d l. block-to g (has (get_or found k d).items) is.graph (block (get_or found k d) (All-contains_itself found k d l)));
      every = λ q b.
          let at = some_at (λ (u : Vec ℕ Global). has u.items) (λ L. Within (nodes_in g q) L × Within L (nodes_in g q)) (reverse found) (ends.1 (nodes_in g q) (block-from g q is.graph b)) in
          let here = reverse_contains found at.0 at.1 in
          let set : IsSetBelow n at.0.items = All-contains (λ (v : Vec ℕ Global). IsSetBelow n v.items) found at.0 is.found_nodes here in
          let same : at.0.items ≡ members n q = same_list at.0.items (members n q) set.ascending (members_ascend n q) (λ v. elim (cases_lt v n) [
            | inl l ↦ same_test (has at.0.items v) (q v) (λ h. (and_parts (is_node g v) (q v) (at.2.1 v h)).1) (λ h. at.2.0 v (and_from (is_node g v) (q v) (is_node-from g v l) h)) ∙ sym (has-members n q v l)
            | inr ge ↦ false_from_ne_true (has at.0.items v) (λ h. let l : v < n = All-has (λ u. u < n) at.0.items set.below v h in omega (arith, l, ge)) ∙ sym (members_below n q v ge)
          ]) in
          subst (Contains (lists_of found)) same (contains_map (λ (v : Vec ℕ Global). v.items) found at.0 here);
    }

-- and the nodes at which was cut are the cut vertices
pub all_cuts : (g : Network) (w : Work) → length w.todo.items ≤ 0 → Working g [] w → (v : ℕ) → IsTrue (mark_of w.cuts.items v) ↔ IsCutVertex g v
all_cuts g w none is v =
    let n = g.nodes in
    let V : ℕ → Bool = is_node g in
    let out = sets_in w.found.items in
    let empty : w.todo.items ≡ [] = no_parts w.todo.items none in
    let ready : Each (Ready g n V) out = is.cutting.ready in
    let to : (u : ℕ) → u < n → IsTrue (without V v u) → IsTrue (without everything v u) = λ u l h. without-from everything v u refl (without-parts V v u h).1 in
    let from : (u : ℕ) → u < n → IsTrue (without everything v u) → IsTrue (without V v u) = λ u l h. without-from V v u (is_node-from g u l) (without-parts everything v u h).1 in
    let below : (u : ℕ) → IsTrue (without V v u) → u < n = λ u h. is_node_below g u (without-parts V v u h).0 in (
      (λ t. record {
        node = omega (arith, mark_below w.cuts.items v t, is.marks);
        parts = λ connected. is.cuts.sound v t (connected-joined g (without V v) below (connected_inside g (without everything v) (without V v) is.graph from to connected));
      }),
      (λ cut. elim (cases_Bool (mark_of w.cuts.items v)) [
        | inl t ↦ t
        | inr f ↦
            let firm : IsJoinedIn g (without V v) = is.cuts.complete v f (subst (λ xs. Each (λ S. IsJoinedIn g (without S v)) (sets_in xs)) (sym empty) tt) (each-map (Ready g n V) (λ S. IsJoinedIn g (without S v)) (λ S r. r.like.firm v) out ready) in
            absurd (cut.parts (connected_inside g (without V v) (without everything v) is.graph to from (joined-connected g (without V v) is.graph firm)))
      ]),
    )
