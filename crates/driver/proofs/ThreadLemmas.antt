-- What comes of the threads that are joined one by one.
use Rattle.std.proofs.Common.{◌≡◌, ℕ, Bool, Option, List, [], ◌∷◌, ◌++◌, length}
use Rattle.mpicall.specs.declared.source.Source.{Source}
use Rattle.rankfeed.specs.declared.ring.Feed.{Feed}
use Rattle.driver.specs.Threads.{IsFedFrom, Promises, AllPromise, AreFedFrom}
use Rattle.driver.specs.declared.threads.FeedResult.{FeedResult}
use Rattle.driver.specs.declared.threads.Started.{Started}
use Rattle.driver.proofs.AlongLemmas.{AlongThen, then_next, then_ends}

-- what the threads that ended promised has come, and the others, which are left, still promise it
abbrev pub Comes : {I G : Type 0} → (I → Option (List ℕ)) → (G → ℕ → ℕ → Bool → Type 0) → List (Started I G) → List FeedResult → List (Started I G) → Type 0
Comes {I = I} {G = G} left may_answer started fed rest =
    (sources : List (Source I)) (feeds : List Feed) (gate : G) → AllPromise left may_answer sources feeds gate started →
    AlongThen (λ source feed one. IsFedFrom left (may_answer gate) source feed one) (λ source feed one. Promises left may_answer source feed gate one) sources feeds fed rest

pub comes_next : {I G : Type 0} (left : I → Option (List ℕ)) (may_answer : G → ℕ → ℕ → Bool → Type 0) (started now rest : List (Started I G)) (fed more : List FeedResult) (thread : Started I G) (one : FeedResult) → Comes left may_answer started fed now → now ≡ thread ∷ rest → ((source : Source I) (feed : Feed) (gate : G) → Promises left may_answer source feed gate thread → IsFedFrom left (may_answer gate) source feed one) → more ≡ fed ++ one ∷ [] → Comes left may_answer started more rest
comes_next left may_answer started now rest fed more thread one so is gives grown sources feeds gate all =
    then_next _ _ sources feeds fed more thread one now rest (so sources feeds gate all) is (λ source feed promises. gives source feed gate promises) grown

pub comes_last : {I G : Type 0} (left : I → Option (List ℕ)) (may_answer : G → ℕ → ℕ → Bool → Type 0) (started rest : List (Started I G)) (fed : List FeedResult) → Comes left may_answer started fed rest → length rest ≡ 0 → (sources : List (Source I)) (feeds : List Feed) (gate : G) → AllPromise left may_answer sources feeds gate started → AreFedFrom left (may_answer gate) sources feeds fed
comes_last left may_answer started rest fed so none sources feeds gate all = then_ends _ _ sources feeds fed rest (so sources feeds gate all) none
