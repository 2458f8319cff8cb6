-- Two ranks that send to each other before either receives.
use Rattle.std.specs.Prelude.{ℕ, List, ◌++◌, codes}

-- the report of that run
abbrev pub report : List ℕ
report =
    codes "verdict hang\n"
    ++ codes "rank 0 at 0 send 0 1 0 waits rank 1 call 1\n"
    ++ codes "rank 1 at 0 send 0 0 0 waits rank 0 call 1\n"
    ++ codes "cycle 0 1\n"
