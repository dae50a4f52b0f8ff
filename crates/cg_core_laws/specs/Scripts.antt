-- What was committed, script by script, and the trees of the commits.
use Rattle.std.specs.Prelude.{◌≡◌, ℕ, ◌-◌, ◌≤◌, ◌++◌, length, drop}
use Rattle.cg_model.specs.System.{System}
use Rattle.cg_model.specs.Tree.{Tree}
use Rattle.cg_model.specs.Cgroups.{cgroups}
use Rattle.cg_model.specs.History.{History}
use Rattle.cg_model.specs.Opens.{commits}
use Rattle.cg_model.specs.Live.{Items, committed, scripts, one_by_one}
use Rattle.cg_model.specs.Run.{run_items, committed_through, commit_tree}

-- the scripts of a history are what was committed
pub record AreScripts (y : System) (h : History y) : Type 0 where
  -- there is one script for each commit
  pub count : length (scripts h) ≡ commits h
  -- one after another they are what was committed
  pub all : one_by_one (scripts h) ≡ committed h
  -- and the first n of them what was committed through the n-th commit
  pub first : (n : ℕ) → one_by_one (drop (commits h - n) (scripts h)) ≡ committed_through n h
  -- what was committed through the m-th commit begins what was through the n-th
  pub begin : (m n : ℕ) → m ≤ n → (newer : Items y) × (committed_through n h ≡ newer ++ committed_through m h)

-- so it is of every history
abbrev pub CommittedScripts : Type 0
CommittedScripts = (h : History cgroups) → AreScripts cgroups h

-- the tree after n commits is, at any later time, the one that the committed work alone gave when n had committed
abbrev pub CommitTrees : Type 0
CommitTrees = (opening : Tree) (newer h : History cgroups) → commit_tree cgroups opening (commits h) (newer ++ h) ≡ run_items cgroups opening (committed h)

-- and the tree that the first n scripts give one after another
abbrev pub TreesOfScripts : Type 0
TreesOfScripts = (opening : Tree) (n : ℕ) (h : History cgroups) → commit_tree cgroups opening n h ≡ run_items cgroups opening (one_by_one (drop (commits h - n) (scripts h)))
