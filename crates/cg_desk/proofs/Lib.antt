mod Counting
mod LiveStacks
mod NeverLost
mod Replied
