-- A block with its links is a piece that no single node cuts.
use Rattle.std.proofs.Common.{◌≡◌, ℕ, ◌<◌, ◌≤◌, Bool, not, ◌&&◌, ◌==◌, List, length, IsTrue, sym, ap, ap₂, ◌∙◌, subst, arith}
use Rattle.std.specs.List.{filter}
use Rattle.std.proofs.lemmas.Bool.{and_parts, and_from}
use Rattle.tomo_base.specs.Limits.{graph_link_limit}
use Rattle.tomo_base.specs.Network.{Network, any_joins, linked, IsGraph}
use Rattle.tomo_base.specs.Sets.{has}
use Rattle.tomo_base.specs.Search.{mark_of}
use Rattle.tomo_base.specs.SetLists.{IsSetBelow}
use Rattle.tomo_base.specs.Blocks.{IsBlock, IsNonseparable}
use Rattle.tomo_base.proofs.Ascending.{All-has}
use Rattle.tomo_base.specs.Parting.{IsJoinedWithoutOne}
use Rattle.tomo_base.proofs.Parting.{without-from, without-parts, joined-same}
use Rattle.tomo_base.proofs.Reaching.{is_node, nodes_in, is_node-from}
use Rattle.blocks.proofs.Working.{like-from, like-to}
use Rattle.split_tree.specs.declared.piece.Piece.{Piece}
use Rattle.split_tree.specs.Pieces.{net, IsPiece, IsPieceOf}
use Rattle.split_tree.specs.Parts.{is_inside}
use Rattle.split_tree.specs.Stages.{IsStage}
use Rattle.split_tree.proofs.MarkedLinks.{any_filter, AreLinks-filter}
use Rattle.tomo_base.proofs.Lists.{filter_le}

module _ (g : Network) (block : List ℕ) (marks : List Bool) (p : Piece) (graph : IsGraph g) (is : IsBlock g (has block)) (set : IsSetBelow g.nodes block)
    (same : (v : ℕ) → mark_of marks v ≡ has block v) (nodes_are : p.nodes ≡ block) (links_are : p.links ≡ filter (is_inside marks) g.links) where
  -- its links are those of the graph between its nodes
  links_in : (u v : ℕ) → any_joins p.links u v ≡ (linked g u v && (has block u && has block v))
  links_in u v = ap (λ ls. any_joins ls u v) links_are ∙ (any_filter marks g.links u v ∙ ap₂ (λ x y. linked g u v && (x && y)) (same u) (same v))

  -- the block with its links
  pub top_piece_of : IsPieceOf g block p
  top_piece_of = record { nodes_are = nodes_are; links_are = links_in }

  -- is a piece
  top_piece : IsPiece g.nodes p
  top_piece = record {
    set = rw nodes_are set;
    links = rw links_are (AreLinks-filter g.nodes marks g.links graph);
    ends = λ u v l. subst (λ xs. IsTrue (has xs u && has xs v)) (sym nodes_are) (and_parts (linked g u v) (has block u && has block v) (sym (links_in u v) ∙ l)).1;
  }

  -- connected without any one node in the graph, and so in its own links
  firm : IsJoinedWithoutOne (net g.nodes p) (has block)
  firm c a b ia ib X closed xa =
      let B : ℕ → Bool = has block in
      let like = like-from g B graph is.nonseparable in
      let W : ℕ → Bool = λ v. B v && not (v == c) in
      let low : (v : ℕ) → IsTrue (B v) → v < g.nodes = λ v h. All-has (λ u. u < g.nodes) block set.below v h in
      let whole = joined-same g (λ v. nodes_in g B v && not (v == c)) W
      (λ v m. let q = without-parts (nodes_in g B) c v m in without-from B c v (and_parts (is_node g v) (B v) q.0).1 q.1)
      (λ v m. let q = without-parts B c v m in without-from (nodes_in g B) c v (and_from (is_node g v) (B v) (is_node-from g v (low v q.0)) q.0) q.1)
      (like.firm c) in
      (and_parts (X b) (W b) (whole a b ia ib (λ v. X v && W v)
      (λ u v m l iv. let q = and_parts (X u) (W u) m in
      and_from (X v) (W v) (closed u v q.0 (links_in u v ∙ and_from (linked g u v) (B u && B v) l (and_from (B u) (B v) (without-parts B c u q.1).0 (without-parts B c v iv).0)) iv) iv)
      (and_from (X a) (W a) xa ia))).0

  -- to be cut
  pub top_stage : length g.links ≤ graph_link_limit → IsStage g.nodes p
  top_stage few = record {
    is = top_piece;
    nonseparable = subst (λ xs. IsNonseparable (net g.nodes p) (has xs)) (sym nodes_are)
        (like-to (net g.nodes p) (has block) top_piece.links (λ v h. All-has (λ u. u < g.nodes) block set.below v h) (record { two = is.nonseparable.two; firm = firm }));
    few = omega (arith, few, ap length links_are, filter_le (is_inside marks) g.links);
  }
