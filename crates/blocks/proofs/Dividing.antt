-- One cut: what the work becomes, in the marks and lists of the program.
use Rattle.std.proofs.Common.{◌≡◌, ℕ, ◌<◌, Bool, true, not, List, [], ◌∷◌, ◌++◌, set, IsTrue, Vec, refl, sym, ap, ◌∙◌, arith}
use Rattle.std.specs.Global.{Global}
use Rattle.std.proofs.lemmas.Bool.{and_right}
use Rattle.tomo_base.specs.Network.{Network}
use Rattle.tomo_base.specs.Sets.{has, count, minus, without, Within}
use Rattle.tomo_base.specs.Walks.{everything}
use Rattle.tomo_base.specs.Search.{mark_of}
use Rattle.tomo_base.proofs.Counts.{count-same, count-less}
use Rattle.tomo_base.proofs.Parting.{minus-out}
use Rattle.tomo_base.proofs.Reaching.{is_node}
use Rattle.gate_search.proofs.Cutting.{Cut, cut_off}
use Rattle.gate_search.specs.declared.search.GateSearch.{GateSearch}
use Rattle.blocks.specs.declared.block_list.Work.{Work}
use Rattle.blocks.specs.Sides.{AreSides}
use Rattle.gate_search.specs.Advancing.{IsGrown, HasOneGate}
use Rattle.blocks.specs.Working.{sets_in, IsPutOff, Working, weight_of}
use Rattle.blocks.proofs.CuttingAt.{cuts_same}
use Rattle.blocks.proofs.Working.{cutting-same}
use Rattle.blocks.proofs.Parts.{cut_in_two, put_first, put_last}
use Rattle.blocks.proofs.CutOff.{rest_is, sides_cut}

-- the set at hand may be told by another test
pub same_hand : (g : Network) (S T : ℕ → Bool) (work : Work) → ((v : ℕ) → T v ≡ S v) → Working g (S ∷ []) work → Working g (T ∷ []) work × (weight_of g (T ∷ []) work ≡ weight_of g (S ∷ []) work)
same_hand g S T work same w =
    let n = g.nodes in
    let st : Within S T = λ v m. same v ∙ m in
    let ts : Within T S = λ v m. sym (same v) ∙ m in
    let counts : count n T ≡ count n S = count-same n T S (λ v l. same v) in
    let weight_is : weight_of g (T ∷ []) work ≡ weight_of g (S ∷ []) work = omega (arith, counts) in (
      record {
        graph = w.graph;
        cutting = cutting-same g (is_node g) S T (sets_in work.todo.items) (sets_in work.found.items) st ts w.cutting;
        cuts = cuts_same g (is_node g) S T (sets_in work.todo.items) (sets_in work.found.items) (mark_of work.cuts.items) st ts w.cuts;
        marks = w.marks;
        todo_nodes = w.todo_nodes;
        found_nodes = w.found_nodes;
        few = omega (arith, w.few, weight_is);
      },
      weight_is,
    )

-- what a search that met one gate alone has reached is put off
pub divided : (g : Network) (root : ℕ) (w left : ℕ → Bool) (free : List Bool) (s : GateSearch) (d : ℕ) (old new : Work) → HasOneGate g w free s d → IsGrown g everything root w (mark_of free)
    → IsPutOff g s.found.order.items d old.todo.items new.todo.items → new.found.items ≡ old.found.items → new.cuts.items ≡ set old.cuts.items d true → ((v : ℕ) → left v ≡ minus w (has s.found.order.items) v)
    → Working g (w ∷ []) old → Working g (left ∷ []) new × (weight_of g (left ∷ []) new < weight_of g (w ∷ []) old)
divided g root w left free s d old new off h put found_is cuts_is left_is work =
    let K : ℕ → Bool = has s.found.order.items in
    let cut : Cut g w d K = cut_off g everything root w free s d work.graph off h in
    let rest = rest_is w left K d g cut left_is in
    let mid : Work = record { todo = old.todo; found = old.found; cuts = new.cuts } in
    let two = cut_in_two g w d K (has put.part.items) left old mid refl refl cuts_is cut (λ v m. put.nodes v ∙ m) (λ v m. sym (put.nodes v) ∙ m) rest.0 rest.1 work in
    let last = put_first g left mid new put.part put.pushed found_is refl put.set two.0 in
    (last.0, omega (arith, two.1, last.1))

-- free nodes get fewer where the start of a search is one of those that are taken away
pub fewer_free : (n : ℕ) (free next K : ℕ → Bool) (x : ℕ) → x < n → free x ≡ true → IsTrue (K x) → ((v : ℕ) → next v ≡ minus free K v) → count n next < count n free
fewer_free n free next K x l t k are = count-less n next free x l (are x ∙ and_right (free x) (not (K x)) (ap not k)) t (λ v m h. (minus-out free K v (sym (are v) ∙ h)).0)

-- a node that cuts its part into two, which are put on the list one after the other
pub divided_at_root : (g : Network) (p : List ℕ) (root : ℕ) (near far : Vec ℕ Global) (old mid new : Work) → AreSides g p root near.items far.items
    → mid.todo.items ≡ old.todo.items ++ near ∷ [] → mid.found.items ≡ old.found.items → mid.cuts.items ≡ set old.cuts.items root true
    → new.todo.items ≡ mid.todo.items ++ far ∷ [] → new.found.items ≡ mid.found.items → new.cuts.items ≡ mid.cuts.items
    → Working g (has p ∷ []) old → Working g [] new × (weight_of g [] new < weight_of g (has p ∷ []) old)
divided_at_root g p root near far old mid new sides first_is found_is cuts_is second_is found_too cuts_too work =
    let cut = sides_cut g p root near.items far.items sides in
    let start : Work = record { todo = old.todo; found = old.found; cuts = mid.cuts } in
    let two = cut_in_two g (has p) root (without (has near.items) root) (has near.items) (has far.items) old start refl refl cuts_is cut.0 cut.1 cut.2 cut.3 cut.4 work in
    let first = put_first g (has far.items) start mid near first_is found_is refl sides.near_set two.0 in
    let second = put_last g mid new far second_is found_too cuts_too sides.far_set first.0 in
    (second.0, omega (arith, two.1, first.1, second.1))
