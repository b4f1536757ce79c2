-- A name is put down at all nodes that share a path, and each node gets its name.
use Rattle.std.proofs.Common.{◌≡◌, ◌≢◌, ℕ, ◌+◌, ◌*◌, ◌<◌, ◌≤◌, ◌⊎◌, Bool, true, false, List, [], ◌∷◌, length, get_or, set, slice_get, Some, None, refl, sym, ap, subst, ◌∙◌, inl, inr, arith, length-set, get_or-set_same, get_or-set_other}
use Rattle.std.proofs.lemmas.Bool.{both_ways, cases_eq}
use Rattle.tomo_base.specs.declared.graph.Link.{Link}
use Rattle.tomo_base.specs.Search.{entry_at}
use Rattle.tomo_base.specs.Table.{JoinsAt}
use Rattle.tomo_base.proofs.Rows.{any_joins-from}
use Rattle.indep_trees.specs.Trees.{Climbs, IsFree, Trees, parent_in, rank_in}
use Rattle.plan_form.specs.Tied.{place_between}
use Rattle.plan_form.proofs.Tied.{place_joins, place_is}
use Rattle.stpc_paths.specs.declared.roots.Root.{Root}
use Rattle.stpc_paths.specs.Roots.{after, NameEachOther, IsOwned, IsRoot}
use Rattle.stpc_paths.specs.Names.{own, shared, IsPathName}
use Rattle.stpc_paths.specs.Kept.{stops_in, IsForest, monitor_in, AreRoots, SharesPath, itself, below, cell, name_in, PutsName, AreNames}
use Rattle.stpc_paths.proofs.Forests.{after_below}
use Rattle.stpc_paths.proofs.Naming.{name_one, name_exists, name_below, root_owned}
use Rattle.stpc_paths.proofs.Trees.{goes_on, goes_from, parent_below}
use Rattle.stpc_paths.proofs.TreePaths.{climb_short}
use Rattle.stpc_paths.proofs.Laying.{wood, owned_stops, root_link, root_below}

-- ---- who shares a path

module _ (m : ℕ → Bool) (parent : ℕ → ℕ → ℕ) (i : ℕ) where
  -- a node that shares the path of v is v, or shares that of the one node below it
  shares_down : (v b : ℕ) → ((w : ℕ) → m w ≡ false → NameEachOther m parent i w → parent i w ≡ v → w ≡ b) → (u : ℕ) → SharesPath m parent i v u → (u ≡ v) ⊎ SharesPath m parent i b u
  shares_down v b one u itself = inl refl
  shares_down v b one u (below free both rest) = elim (shares_down v b one (parent i u) rest) [
    | inl e ↦ inr (subst (λ x. SharesPath m parent i b x) (sym (one u free both e)) itself)
    | inr s ↦ inr (below free both s)
  ]

  -- where no node is below it, it is v
  shares_only : (v : ℕ) → ((w : ℕ) → m w ≡ false → NameEachOther m parent i w → parent i w ≡ v → ⊥) → (u : ℕ) → SharesPath m parent i v u → u ≡ v
  shares_only v none u itself = refl
  shares_only v none u (below free both rest) = absurd (none u free both (shares_only v none (parent i u) rest))

  -- it is no monitor, where v is none
  shares_free : (v u : ℕ) → m v ≡ false → SharesPath m parent i v u → m u ≡ false
  shares_free v u free itself = free
  shares_free v u free (below free' both rest) = free'

-- cells are equal for the same tree and node alone
one_cell : (i j u v : ℕ) → i < 3 → j < 3 → cell i u ≡ cell j v → (i ≡ j) × (u ≡ v)
one_cell i j u v l h e = (omega (arith, l, h, e), omega (arith, l, h, e))

-- ---- one name

-- after k steps down: the node reached shares the path; the name stands at each node that shares it, but for those below the node reached
pub record NamesTo (t : Trees) (i from node k name : ℕ) (old now : List ℕ) : Type 0 where
  pub size : length now ≡ length old
  pub free : IsFree t.graph (monitor_in t) node
  pub shares : SharesPath (stops_in t) (parent_in t) i from node
  pub left : List ℕ
  pub climbs : Climbs (monitor_in t) (parent_in t (after i)) node left
  pub short : length left + k < t.graph.nodes
  pub named : (u : ℕ) → SharesPath (stops_in t) (parent_in t) i from u → (name_in now i u ≡ name) ⊎ SharesPath (stops_in t) (parent_in t) i node u
  pub others : (x : ℕ) → (entry_at now x ≡ entry_at old x) ⊎ ((u : ℕ) × SharesPath (stops_in t) (parent_in t) i from u × (x ≡ cell i u))

-- at first none
pub names_none : (t : Trees) (i v name : ℕ) (old : List ℕ) → IsForest t → i < 3 → IsFree t.graph (monitor_in t) v → NamesTo t i v v 0 name old old
names_none t i v name old is l free =
    let p = is.trees.path (after i) v (after_below i l) free.0 in
    record {
      size = refl;
      free = free;
      shares = itself;
      left = p.0;
      climbs = p.1;
      short = omega (arith, climb_short t (after i) v p.0 is (after_below i l) free.0 p.1);
      named = λ u s. inr s;
      others = λ x. inl refl;
    }

module _ (t : Trees) (i from node k name : ℕ) (old now : List ℕ) (is : IsForest t) (l : i < 3) (size : length old ≡ 3 * t.graph.nodes) (c : NamesTo t i from node k name old now) where
  -- the table with the name at the node
  abbrev put : List ℕ
  put = set now (cell i node) name

  within : cell i node < length now
  within = omega (arith, c.free.0, l, c.size, size)

  -- it stands there
  put_here : name_in put i node ≡ name
  put_here = get_or-set_same now (cell i node) name 0 within

  -- and elsewhere nothing changed
  put_other : (x : ℕ) → x ≢ cell i node → entry_at put x ≡ entry_at now x
  put_other x ne = get_or-set_other now (cell i node) x name 0 ne

  put_others : (x : ℕ) → (entry_at put x ≡ entry_at old x) ⊎ ((u : ℕ) × SharesPath (stops_in t) (parent_in t) i from u × (x ≡ cell i u))
  put_others x = elim (cases_eq x (cell i node)) [
    | inl e ↦ inr (node, c.shares, e)
    | inr ne ↦ elim (c.others x) [ inl same ↦ inl (put_other x ne ∙ same) | inr there ↦ inr there ]
  ]

  put_named : (u : ℕ) → name_in now i u ≡ name → name_in put i u ≡ name
  put_named u h = elim (cases_eq (cell i u) (cell i node)) [ inl e ↦ ap (entry_at put) e ∙ put_here | inr ne ↦ put_other (cell i u) ne ∙ h ]

  -- the node below the node
  abbrev next : ℕ
  next = parent_in t (after i) node

  next_below : next < t.graph.nodes
  next_below = parent_below t.graph (monitor_in t) (rank_in t) (parent_in t) is.graph is.trees (after i) node (after_below i l) c.free

  -- a node that names the node is that one
  one_below : (w : ℕ) → NameEachOther (stops_in t) (parent_in t) i w → parent_in t i w ≡ node → w ≡ next
  one_below w both e = sym both.1 ∙ ap (parent_in t (after i)) e

  -- one node further down
  pub names_more : monitor_in t next ≡ false → parent_in t i next ≡ node → NamesTo t i from next (k + 1) name old put
  names_more free goes = on c.left c.climbs c.short
    where
      plain : stops_in t next ≡ false
      plain = goes_from t.graph (monitor_in t) next (next_below, free)

      on : (p : List ℕ) → Climbs (monitor_in t) (parent_in t (after i)) node p → length p + k < t.graph.nodes → NamesTo t i from next (k + 1) name old put
      on [] climbs short = absurd (both_ways (monitor_in t node) c.free.1 climbs)
      on (w ∷ p) climbs short = record {
        size = length-set now (cell i node) name ∙ c.size;
        free = (next_below, free);
        shares = below plain (goes_from t.graph (monitor_in t) (parent_in t i next) (rw goes c.free), ap (parent_in t (after i)) goes) (subst (λ x. SharesPath (stops_in t) (parent_in t) i from x) (sym goes) c.shares);
        left = p;
        climbs = subst (λ x. Climbs (monitor_in t) (parent_in t (after i)) x p) climbs.1 climbs.2;
        short = omega (arith, short);
        named = λ u s. elim (c.named u s) [
          | inl h ↦ inl (put_named u h)
          | inr s' ↦ elim (shares_down (stops_in t) (parent_in t) i node next (λ w free' both e. one_below w both e) u s') [
            | inl e ↦ inl (ap (λ x. name_in put i x) e ∙ put_here)
            | inr down ↦ inr down
          ]
        ];
        others = put_others;
      }

  -- all, where no node below shares the path
  pub names_all : (monitor_in t next ≡ true) ⊎ (parent_in t i next ≢ node) → PutsName t i from name old put
  names_all last = record {
    size = length-set now (cell i node) name ∙ c.size;
    named = λ u s. elim (c.named u s) [
      | inl h ↦ put_named u h
      | inr s' ↦ ap (λ x. name_in put i x) (shares_only (stops_in t) (parent_in t) i node none u s') ∙ put_here
    ];
    others = put_others;
  }
    where
      none : (w : ℕ) → stops_in t w ≡ false → NameEachOther (stops_in t) (parent_in t) i w → parent_in t i w ≡ node → ⊥
      none w free both e =
          let same : w ≡ next = one_below w both e in
          elim last [
            | inl stop ↦ both_ways (monitor_in t w) (goes_on t.graph (monitor_in t) w free).1 (ap (monitor_in t) same ∙ stop)
            | inr other ↦ other (ap (parent_in t i) (sym same) ∙ e)
          ]

-- it ends
pub names_end : (t : Trees) (i from node k name : ℕ) (old now : List ℕ) → t.graph.nodes ≤ k → NamesTo t i from node k name old now → ⊥
names_end t i from node k name old now le c = omega (arith, le, c.short)

-- ---- all names

-- the names of the first k links stand in the table
pub record NamedTo (t : Trees) (k : ℕ) (names : List ℕ) : Type 0 where
  pub size : length names ≡ 3 * t.graph.nodes
  pub each : (i v q : ℕ) → i < 3 → stops_in t v ≡ false → IsPathName t.graph.links (stops_in t) (parent_in t) i v q → q < k → name_in names i v ≡ q

module _ (t : Trees) (is : IsForest t) (roots : List Root) (are : AreRoots t t.graph.links roots) where
  -- a root for the forest
  pub root_stops : (e : ℕ) (d : Root) (l : Link) → slice_get t.graph.links e ≡ Some l → e < length roots → IsRoot (stops_in t) (parent_in t) (rank_in t) l (get_or roots e d)
  root_stops e d l at lt =
      let r = are.each e l d at in
      let b = root_below t roots e d is are lt in
      record { ends = r.ends; owned = owned_stops t (get_or roots e d).node (get_or roots e d).other (get_or roots e d).tree b.0 b.1 is r.owned }

  -- a node with the name of a link shares the path of the link's root
  name_rooted : (i v q : ℕ) (d : Root) → i < 3 → q < length roots → IsPathName t.graph.links (stops_in t) (parent_in t) i v q → ((get_or roots q d).tree ≡ Some i) × SharesPath (stops_in t) (parent_in t) i (get_or roots q d).node v
  name_rooted i v q d l lt (own free alone) =
      let f = wood t is in
      let at : JoinsAt t.graph.links (place_between t.graph.links v (parent_in t i v)) v (parent_in t i v) = place_joins t.graph.links v (parent_in t i v) (f.joined i v l free) in
      let r = root_owned t.graph (stops_in t) (rank_in t) (parent_in t) f i v (parent_in t i v) at.0 (get_or roots q d) l (record { free = free; parent_is = refl; alone = alone }) at.2 (root_stops q d at.0 at.1 lt) in
      (r.2, subst (λ x. SharesPath (stops_in t) (parent_in t) i x v) (sym r.0) itself)
  name_rooted i v q d l lt (shared free both rest) = let up = name_rooted i (parent_in t i v) q d l lt rest in (up.0, below free both up.1)

  -- a node that shares the path of a root has the name of its link
  shares_name : (i q : ℕ) (d : Root) (u : ℕ) → q < length roots → (get_or roots q d).tree ≡ Some i → SharesPath (stops_in t) (parent_in t) i (get_or roots q d).node u → IsPathName t.graph.links (stops_in t) (parent_in t) i u q
  shares_name i q d u lt tree itself =
      let r = root_link t roots q d are lt in
      let owned : IsOwned (stops_in t) (parent_in t) (rank_in t) (get_or roots q d).node (get_or roots q d).other (Some i) = rw tree at (root_stops q d r.0 r.1 lt).owned in
      let at : JoinsAt t.graph.links q (get_or roots q d).node (get_or roots q d).other = (r.0, r.1, r.2.ends) in
      let place = place_is t.graph (get_or roots q d).node (get_or roots q d).other q is.graph at (any_joins-from t.graph.links q (get_or roots q d).node (get_or roots q d).other at) in
      subst (λ x. IsPathName t.graph.links (stops_in t) (parent_in t) i u x) (ap (place_between t.graph.links u) owned.1.parent_is ∙ place) (own owned.1.free owned.1.alone)
  shares_name i q d u lt tree (below free both rest) = shared free both (shares_name i q d (parent_in t i u) lt tree rest)

  -- the names of one link more, which has a tree
  pub named_more : (k i : ℕ) (d : Root) (old new : List ℕ) → i < 3 → k < length roots → (get_or roots k d).tree ≡ Some i → PutsName t i (get_or roots k d).node k old new → NamedTo t k old → NamedTo t (k + 1) new
  named_more k i d old new l lt tree puts before = record {
    size = puts.size ∙ before.size;
    each = λ j v q h free name less. elim (cases_eq q k) [
      | inl e ↦
          let from = name_rooted j v k d h lt (subst (λ x. IsPathName t.graph.links (stops_in t) (parent_in t) j v x) e name) in
          let same : i ≡ j = some (sym tree ∙ from.0) in
          subst (λ x. name_in new x v ≡ q) same (puts.named v (subst (λ x. SharesPath (stops_in t) (parent_in t) x (get_or roots k d).node v) (sym same) from.1) ∙ sym e)
      | inr ne ↦ elim (puts.others (cell j v)) [
        | inl unchanged ↦ unchanged ∙ before.each j v q h free name (omega (arith, less, ne))
        | inr there ↦
            let one = one_cell j i v there.0 h l there.2 in
            let k_named : IsPathName t.graph.links (stops_in t) (parent_in t) j v k = rw (one.0, one.1) (shares_name i k d there.0 lt tree there.1) in
            absurd (ne (name_one t.graph (stops_in t) (rank_in t) (parent_in t) (wood t is) j v q k name k_named))
      ]
    ];
  }
    where
      some : {a b : ℕ} → Some a ≡ Some b → a ≡ b
      some e = cc e

  -- the names of one link more, which has none
  pub named_same : (k : ℕ) (d : Root) (names : List ℕ) → k < length roots → (get_or roots k d).tree ≡ None → NamedTo t k names → NamedTo t (k + 1) names
  named_same k d names lt tree before = record {
    size = before.size;
    each = λ j v q h free name less. elim (cases_eq q k) [
      | inl e ↦ absurd (none (sym tree ∙ (name_rooted j v k d h lt (subst (λ x. IsPathName t.graph.links (stops_in t) (parent_in t) j v x) e name)).0))
      | inr ne ↦ before.each j v q h free name (omega (arith, less, ne))
    ];
  }
    where
      none : {a : ℕ} → None ≡ Some a → ⊥
      none e = cc e

  -- all
  pub named_all : (k : ℕ) (names : List ℕ) → length roots ≤ k → NamedTo t k names → AreNames t names
  named_all k names le all = record {
    size = all.size;
    each = λ i v l free.
        let f = wood t is in
        let name = name_exists t.graph (stops_in t) (rank_in t) (parent_in t) f i v (f.trunk i v) (f.climbs i v l) free in
        let less = name_below t.graph (stops_in t) (rank_in t) (parent_in t) f i v name.0 l name.1 in
        rw (all.each i v name.0 l free name.1 (omega (arith, less, le, are.one_each))) name.1;
  }

-- at first none
pub named_none : (t : Trees) (names : List ℕ) → length names ≡ 3 * t.graph.nodes → NamedTo t 0 names
named_none t names size = record { size = size; each = λ i v q l free name less. absurd (omega (arith, less)) }
